-- T(2) is 0.5, T falls strictly, and D(n + 1) / D(n) is within its bracket: one test that antt computes over the whole table.
use mathlib.Core.Path.{◌≡◌, refl}
use mathlib.Core.Bool.{Bool, ◌&&◌}
use Prim.Native.Nat.{ℕ, suc, ◌*◌, ◌<◌}
use lib.Dec.{T, ltb, ltb→lt}
use lib.ListN.{get_or}
use lib.Ieee.{Float, binary64, of_bits, lt}
use lib.Ieee.Fits.{and_l, and_r}
use lib.Ieee.Positive.{num, den, positive}
use Rattle.numeric.specs.Constants.{half64}
use Rattle.numeric.specs.Logistic.{table_bits, logistic_at}
use Rattle.numeric.specs.LogisticRule.{Step, growth_num, growth_den}
use Rattle.numeric.proofs.logistic.ListTests.{pairs, pairs_at}

abbrev test : Float → Float → Bool
test x y =
    positive y
    && (ltb (num x) (den x)
    && (lt y x
    && (ltb (1515426224147 * growth_den x y) (100000000000 * growth_num x y)
    && ltb (100000000000 * growth_num x y) (1515426224148 * growth_den x y))))

test→step : (x y : Float) → T (test x y) → Step x y
test→step x y t =
    let a = positive y in
    let b = ltb (num x) (den x) in
    let c = lt y x in
    let d = ltb (1515426224147 * growth_den x y) (100000000000 * growth_num x y) in
    let e = ltb (100000000000 * growth_num x y) (1515426224148 * growth_den x y) in
    let t1 = and_r a (b && (c && (d && e))) t in
    let t2 = and_r b (c && (d && e)) t1 in
    let t3 = and_r c (d && e) t2 in
    record {
      above = and_l a (b && (c && (d && e))) t;
      below = ltb→lt (num x) (den x) (and_l b (c && (d && e)) t1);
      falls = and_l c (d && e) t2;
      low = ltb→lt (1515426224147 * growth_den x y) (100000000000 * growth_num x y) (and_l d e t3);
      high = ltb→lt (100000000000 * growth_num x y) (1515426224148 * growth_den x y) (and_r d e t3);
    }

abbrev bit_test : ℕ → ℕ → Bool
bit_test a b = test (of_bits binary64 a) (of_bits binary64 b)

passes : T (pairs bit_test table_bits)
unfolding table_bits of_bits lt
passes = tt

pub half_at_two : logistic_at 2 ≡ half64
unfolding logistic_at table_bits of_bits
half_at_two = refl

pub step : (n : ℕ) → suc n < 264 → Step (logistic_at n) (logistic_at (suc n))
unfolding logistic_at table_bits
step n h = test→step (of_bits binary64 (get_or table_bits n 0)) (of_bits binary64 (get_or table_bits (suc n) 0)) (pairs_at bit_test table_bits passes n h)
