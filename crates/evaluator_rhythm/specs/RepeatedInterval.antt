-- The penalty of a rhythm group that repeats an interval (scope: evaluators/rhythm.rs, `repeated_interval_penalty`).
-- A group and those before it are walked, three and then four of them, in search of two own intervals that are alike;
-- the longer the group lasts, the smaller is the result. The threshold is a parameter, as in the source.
use Rattle.std.specs.Prelude.{ℕ, Bool, false, cond, ◌||◌, List, [], ◌∷◌, ltb, length, take, Float}
use Rattle.std.specs.Float.{binary64}
use Rattle.std.specs.Float.Ieee.{sub, mul, div, le}
use Rattle.numeric.specs.Constants.{half64, one64, two64, eight_tenths}
use Rattle.numeric.specs.Near.{is_near}
use Rattle.std.specs.Prelude.{Option, None, Some}
use Rattle.grouping_same_rhythm.specs.declared.owns.Recent.{Recent}

-- the own intervals that exist
unfoldable pub present : List (Option Float) → List Float
present [] = []
present (None ∷ owns) = present owns
present (Some x ∷ owns) = x ∷ present owns

-- the quotient of two own intervals is near 1.0
unfoldable pub similar : Float → Float → Float → Bool
similar threshold newer older = is_near threshold one64 (div binary64 newer older)

-- a newer one with some older one
unfoldable pub similar_to : Float → Float → List Float → Bool
similar_to threshold newer [] = false
similar_to threshold newer (older ∷ rest) = similar threshold newer older || similar_to threshold newer rest

-- some one with some older one, the newest first
unfoldable pub some_pair : Float → List Float → Bool
some_pair threshold [] = false
some_pair threshold (newer ∷ older) = similar_to threshold newer older || some_pair threshold older

-- the walk over k own intervals, the newest first: where one of them is missing there is nothing to repeat
unfoldable pub walk_penalty : Float → ℕ → List (Option Float) → Float
walk_penalty threshold k owns =
    let walked = present (take k owns) in
    cond (ltb (length walked) k) one64 (cond (some_pair threshold walked) eight_tenths one64)

-- a group's own interval and those of the three groups before it
unfoldable pub newest_first : Recent → List (Option Float)
newest_first r = r.newest ∷ r.second ∷ r.third ∷ r.fourth ∷ []

unfoldable pub smaller : Float → Float → Float
smaller x y = cond (le x y) x y

unfoldable pub larger : Float → Float → Float
larger x y = cond (le y x) x y

-- 1.0 less twice the duration's part of the window, and 0.5 at least
unfoldable pub duration_penalty : Float → Float → Float
duration_penalty duration window = larger (sub binary64 one64 (div binary64 (mul binary64 duration two64) window))
    half64

-- of a group with this many notes, from its first start to its last: with six notes the longer walk is left out
unfoldable pub repeated_interval_penalty : Float → Recent → ℕ → Float → Float → Float
repeated_interval_penalty threshold owns notes duration window =
    let three = walk_penalty threshold 3 (newest_first owns) in
    let four = cond (ltb notes 6) (walk_penalty threshold 4 (newest_first owns)) one64 in
    mul binary64 (smaller three four) (duration_penalty duration window)
