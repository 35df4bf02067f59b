-- Sizes for the crates above: T(n) and 1.0 − T(n) are at most 1, and T(n) is a value of the format, for every n,
-- by one test that antt computes over the whole table.
use mathlib.Core.Bool.{Bool, false, ◌&&◌}
use Prim.Native.Nat.{ℕ, ◌*◌}
use lib.Dec.{T, leb, leb→le}
use lib.ListN.{get_or}
use lib.Ieee.{Float, nan, inf, fin, binary64, up, down, of_bits, sub}
use lib.Ieee.Fits.{and_l, and_r}
use Rattle.numeric.specs.Constants.{one64}
use Rattle.numeric.specs.Logistic.{table_bits, logistic_at}
use Rattle.numeric.proofs.Bounded.{Bounded}
use Rattle.numeric.proofs.logistic.ListTests.{every, at_or_past}

abbrev at_most_one : Float → Bool
at_most_one nan = false
at_most_one (inf s) = false
at_most_one (fin s m e) = leb (m * up e) (1 * down e)

at_most_one_bounded : (x : Float) → T (at_most_one x) → Bounded x 1
at_most_one_bounded nan t = absurd t
at_most_one_bounded (inf s) t = absurd t
at_most_one_bounded (fin s m e) t = leb→le (m * up e) (1 * down e) t

abbrev bit_test : ℕ → Bool
bit_test b = at_most_one (of_bits binary64 b) && at_most_one (sub binary64 one64 (of_bits binary64 b))

passes : T (every (λ _. bit_test) 0 table_bits)
unfolding table_bits of_bits sub
passes = tt

zero_passes : T (bit_test 0)
unfolding of_bits sub
zero_passes = tt

entry : (n : ℕ) → T (bit_test (get_or table_bits n 0))
entry = at_or_past bit_test table_bits 0 passes zero_passes

pub logistic_bounded : (n : ℕ) → Bounded (logistic_at n) 1
unfolding logistic_at
logistic_bounded n =
    let x = of_bits binary64 (get_or table_bits n 0) in
    at_most_one_bounded x (and_l (at_most_one x) (at_most_one (sub binary64 one64 x)) (entry n))

pub rest_bounded : (n : ℕ) → Bounded (sub binary64 one64 (logistic_at n)) 1
unfolding logistic_at
rest_bounded n =
    let x = of_bits binary64 (get_or table_bits n 0) in
    at_most_one_bounded (sub binary64 one64 x) (and_r (at_most_one x) (at_most_one (sub binary64 one64 x)) (entry n))
