-- Size of the penalty for the crates above: with a duration up to 2 ^ 25 in size and a window from 1.0 to 1000.0 it is finite, so no NaN.
-- Each formula is bounded by what its parts are.
use mathlib.Core.Bool.{true, false, not, cond}
use mathlib.Core.List.{List}
use Prim.Native.Nat.{ℕ, ◌+◌, ◌*◌, ◌^◌}
use native.Mathlib.Omega.{arith}
use lib.IntN.{pos}
use lib.Dec.{T, ltb, leb→le}
use lib.ListN.{length, take}
use lib.Ieee.{Float, nan, inf, fin, binary64, fits, is_nan, le, sub, mul, div}
use lib.Ieee.Fits.{mul-fits}
use lib.Ieee.Positive.{positive, between, le→cross}
use Rattle.numeric.specs.Constants.{half64, one64, thousand64, eight_tenths}
use Rattle.numeric.proofs.Values.{number_no_nan}
use Rattle.numeric.proofs.ConstantLaws.{eight_tenths_bounded}
use Rattle.numeric.proofs.Bounded.{Bounded, AtLeast, bounded_number, cond_bounded, sub_bounded, mul_bounded, div_bounded}
use Rattle.std.specs.Prelude.{Option}
use Rattle.grouping_same_rhythm.specs.declared.owns.Recent.{Recent}
use Rattle.evaluator_rhythm.specs.RepeatedInterval.{present, some_pair, walk_penalty, newest_first, smaller, larger, duration_penalty}
use Rattle.evaluator_rhythm.specs.RepeatedInterval.{repeated_interval_penalty}

-- ---- the walks: 0.8 or 1.0
one_bounded : Bounded one64 1
one_bounded = leb→le 1 1 tt

walk_bounded : (threshold : Float) (k : ℕ) (owns : List (Option Float)) → Bounded (walk_penalty threshold k owns) 1
unfolding walk_penalty
walk_bounded threshold k owns =
    let xs = present (take k owns) in
    cond_bounded (ltb (length xs) k) one64 (cond (some_pair threshold xs) eight_tenths one64) 1 one_bounded
    (cond_bounded (some_pair threshold xs) eight_tenths one64 1 eight_tenths_bounded one_bounded)

smaller_bounded : (x y : Float) (B : ℕ) → Bounded x B → Bounded y B → Bounded (smaller x y) B
unfolding smaller
smaller_bounded x y B h g = cond_bounded (le x y) x y B h g

larger_bounded : (x y : Float) (B : ℕ) → Bounded x B → Bounded y B → Bounded (larger x y) B
unfolding larger
larger_bounded x y B h g = cond_bounded (le y x) x y B h g

-- ---- a window that passed its test of range, from 1.0 to 1000.0
from_one : (w : Float) → T (positive w) → T (le one64 w) → AtLeast w 1
from_one nan p h = absurd p
from_one (inf s) p h = absurd p
from_one (fin true m e) p h = absurd p
from_one (fin false m e) p h = let k = le→cross one64 (fin false m e) tt p h in omega arith

pub window_at_least : (w : Float) → T (le one64 w) → T (le w thousand64) → AtLeast w 1
window_at_least w lo hi = from_one w (between one64 w thousand64 tt tt lo hi) lo

-- ---- the penalty: a difference of two starts is at most 2 ^ 25 in size
duration_bounded : (duration window : Float) → Bounded duration (2 ^ 25) → AtLeast window 1 → Bounded (duration_penalty duration window) (2 ^ 26 + 1)
unfolding duration_penalty
duration_bounded duration window d w =
    let two = fin false 1 (pos 1) in
    let doubled = mul binary64 duration two in
    let quotient = div binary64 doubled window in
    larger_bounded (sub binary64 one64 quotient) half64 (2 ^ 26 + 1)
    (sub_bounded one64 quotient 1 (2 ^ 26) (leb→le (2 ^ 26 + 1) (2 ^ 53) tt) one_bounded
    (div_bounded doubled window (2 ^ 26) 1 (leb→le (2 ^ 26) (2 ^ 53) tt)
    (mul_bounded duration two (2 ^ 25) 2 (leb→le (2 ^ 26) (2 ^ 53) tt) d (leb→le 2 2 tt)) w))
    (leb→le 1 ((2 ^ 26 + 1) * 2) tt)

module _ (threshold : Float) (owns : Recent) (notes : ℕ) (duration window : Float) where
  pub penalty_bounded : Bounded duration (2 ^ 25) → AtLeast window 1 → Bounded (repeated_interval_penalty threshold owns notes duration window) (2 ^ 26 + 1)
  unfolding repeated_interval_penalty
  penalty_bounded d w =
      let long = walk_penalty threshold 3 (newest_first owns) in
      let four = walk_penalty threshold 4 (newest_first owns) in
      let short = cond (ltb notes 6) four one64 in
      mul_bounded (smaller long short) (duration_penalty duration window) 1 (2 ^ 26 + 1) (leb→le (2 ^ 26 + 1) (2 ^ 53) tt)
      (smaller_bounded long short 1 (walk_bounded threshold 3 (newest_first owns))
      (cond_bounded (ltb notes 6) four one64 1 (walk_bounded threshold 4 (newest_first owns)) one_bounded))
      (duration_bounded duration window d w)

  pub penalty-fits : T (fits binary64 (repeated_interval_penalty threshold owns notes duration window))
  unfolding repeated_interval_penalty
  penalty-fits =
      mul-fits binary64 (smaller (walk_penalty threshold 3 (newest_first owns)) (cond (ltb notes 6) (walk_penalty threshold 4 (newest_first owns)) one64))
      (duration_penalty duration window)

  pub penalty_no_nan : Bounded duration (2 ^ 25) → T (le one64 window) → T (le window thousand64)
      → T (not (is_nan (repeated_interval_penalty threshold owns notes duration window)))
  penalty_no_nan d lo hi =
      number_no_nan
      (bounded_number (repeated_interval_penalty threshold owns notes duration window) (2 ^ 26 + 1) penalty-fits
      (penalty_bounded d (window_at_least window lo hi)))
