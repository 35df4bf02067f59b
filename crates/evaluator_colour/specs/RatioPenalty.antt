-- The ratio penalty (scope: evaluators/color.rs) of object idx, by its ratio c and the ratio p of the object two
-- before it. A quotient c / p near 1.0 counts as a ratio repeated; the tolerance is a parameter, as in the source.
use Rattle.std.specs.Prelude.{cond, ℕ, ltb, Float}
use Rattle.std.specs.Float.{binary64}
use Rattle.std.specs.Float.Ieee.{sub, mul, div}
use Rattle.numeric.specs.Constants.{one64, two64, eight_tenths}
use Rattle.numeric.specs.Near.{is_near}

-- 1.0 − r / 2.0 × 0.8
unfoldable pub lowered : Float → Float
lowered r = sub binary64 one64 (mul binary64 (div binary64 r two64) eight_tenths)

unfoldable pub ratio_penalty : Float → ℕ → Float → Float → Float
ratio_penalty tolerance idx c p =
    cond (ltb idx 2) one64
    (cond (is_near tolerance one64 (div binary64 c p)) (lowered c) (cond (ltb idx 4) one64 (lowered p)))
