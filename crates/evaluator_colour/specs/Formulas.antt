-- The parts of an object's colour value (scope: evaluators/color.rs): every operation is rounded to binary64
-- (IEEE 754-2019, 5.4.1), in the order written here.
use Rattle.std.specs.Prelude.{Bool, cond, ℕ, Float}
use Rattle.std.specs.Float.{binary64}
use Rattle.std.specs.Float.Ieee.{add, sub, mul}
use Rattle.numeric.specs.Constants.{zero64, half64, one64, two64}
use Rattle.numeric.specs.Logistic.{logistic_at}
use Rattle.evaluator_colour.specs.declared.Standing.{Standing}

-- of its hit pattern, by the interval: 2.0 × (1.0 − T)
unfoldable pub hit_value : ℕ → Float
hit_value interval = mul binary64 two64 (sub binary64 one64 (logistic_at interval))

-- of its alternating pattern, by its place in the hit pattern: T × hit
unfoldable pub alt_value : ℕ → Float → Float
alt_value place hit = mul binary64 (logistic_at place) hit

-- of its streak, by its place in the alternating pattern: T × alt × 0.5
unfoldable pub mono_value : ℕ → Float → Float
mono_value place alt = mul binary64 (mul binary64 (logistic_at place) alt) half64

-- x, added where the object is first
unfoldable pub add_if : Bool → Float → Float → Float
add_if first sum x = cond first (add binary64 sum x) sum

-- each part counts for the first object of its group: the streak's, then the pattern's, then the hit pattern's
unfoldable pub object_sum : Standing → Float
object_sum o =
    let hit = hit_value o.interval in
    let alt = alt_value o.pattern_place hit in
    add_if o.hit (add_if o.pattern (add_if o.streak zero64 (mono_value o.streak_place alt)) alt) hit
