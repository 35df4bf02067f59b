-- Why the original's `smootherstep` line is never reached: its second comparison is of the object idx - 2 with itself, and a ratio in range divided by itself
-- is 1.0, which is near 1.0.
-- Its quotient's fraction is 1 / 1, and equal fractions round alike.
use mathlib.Core.Path.{◌≡◌, refl, ap, ◌∙◌}
use mathlib.Core.Bool.{true, false}
use Prim.Native.Nat.{ℕ, zero, suc, ◌*◌}
use native.Mathlib.Nat.{mul-pos, zero-lt-suc, mul_comm}
use lib.IntN.{ℤ}
use lib.Dec.{T, eqb-suc-zero}
use lib.Ieee.{Float, nan, inf, fin, binary64, fits, up, down, le, round, div}
use lib.Ieee.Fits.{up_pos, down_pos}
use lib.Ieee.Positive.{positive, between}
use lib.Ieee.Scale.{round_same}
use Rattle.numeric.specs.Constants.{zero64, one64}
use Rattle.numeric.specs.Near.{is_near}
use Rattle.numeric.specs.Range.{least_ratio, greatest_ratio}
use Rattle.numeric.proofs.Values.{Number}
use Rattle.numeric.proofs.near.Laws.{near_self}

one_rounded : round binary64 false 1 1 ≡ one64
unfolding round
one_rounded = refl

-- m * 2 ^ e over itself
whole-quotient : (m : ℕ) (e : ℤ) → div binary64 (fin false (suc m) e) (fin false (suc m) e) ≡ one64
unfolding div
whole-quotient m e =
    let a = suc m * up e * down e in
    rw (eqb-suc-zero m)
    (round_same binary64 false a a 1 1 (mul-pos (mul-pos (zero-lt-suc m) (up_pos e)) (down_pos e)) (zero-lt-suc 0) (mul_comm a 1) ∙ one_rounded)

-- of every positive value
pub own-quotient : (p : Float) → T (positive p) → div binary64 p p ≡ one64
own-quotient nan h = absurd h
own-quotient (inf s) h = absurd h
own-quotient (fin true m e) h = absurd h
own-quotient (fin false zero e) h = absurd h
own-quotient (fin false (suc m) e) h = whole-quotient m e

pub range_quotient : (p : Float) → T (le least_ratio p) → T (le p greatest_ratio) → div binary64 p p ≡ one64
range_quotient p lo hi = own-quotient p (between least_ratio p greatest_ratio tt tt lo hi)

one_number : Number one64
unfolding fits
one_number = record { is_finite = tt; is_held = tt }

pub own-near : (tolerance p : Float) → T (le zero64 tolerance) → T (le least_ratio p) → T (le p greatest_ratio)
    → is_near tolerance one64 (div binary64 p p) ≡ true
own-near tolerance p t lo hi = ap (is_near tolerance one64) (range_quotient p lo hi) ∙ near_self tolerance one_number t
