-- T(n) is 1 ÷ (1 + x^(n − 2)) rounded to f64, for every x around e^e. Rounding keeps the order, so it is enough that the value lies between two fractions
-- that round to T(n): one test that antt computes over the whole table, at the two ends of the bracket.
use mathlib.Core.Path.{◌≡◌, sym, ap, ◌∙◌}
use mathlib.Core.Logic.{inl, inr}
use mathlib.Core.Bool.{Bool, true, false, ◌&&◌, ◌||◌}
use Prim.Native.Nat.{ℕ, ◌+◌, ◌-◌, ◌*◌, ◌^◌, ◌<◌}
use native.Mathlib.Nat.{le_trans, le_of_eq, le_of_lt, mul_comm, mul-pos}
use lib.Dec.{T, eqb, eqb→eq, leb→le}
use lib.Pow.{pow_pos}
use lib.ListN.{get_or}
use lib.Ieee.{Float, nan, inf, fin, binary64, fits, of_bits, to_bits, round, lt, eq, le}
use lib.Ieee.Bits.{of_bits-to_bits, of_bits-fits}
use lib.Ieee.Fits.{and_i, and_l, and_r, round-fits}
use lib.Ieee.Order.{round_mono}
use lib.Ieee.Positive.{positive, positive-finite, between}
use mir.Facts.{or_yes}
use Rattle.numeric.specs.Logistic.{table_bits, logistic_at}
use Rattle.numeric.specs.LogisticNearest.{Around, value_num, value_den}
use Rattle.numeric.specs.TotalOrder.{negative, total_order}
use Rattle.numeric.proofs.Tests.{or_l, or_r}
use Rattle.numeric.proofs.Values.{Number}
use Rattle.numeric.proofs.order.Laws.{antisym}
use Rattle.numeric.proofs.logistic.ListTests.{every, every_here}
use Rattle.numeric.proofs.logistic.Between.{value_den_pos, Inside}
use Rattle.numeric.proofs.logistic.Bracket.{at_ends, inside-bracket}
use Rattle.numeric.proofs.logistic.Nearest.{place, count}

-- ---- two positive values, each at most the other, are one
in_order_lem : (x y : Float) → T (positive y) → T (le x y) → T (total_order x y)
unfolding le total_order
in_order_lem x nan p h = absurd p
in_order_lem x (inf s) p h = absurd p
in_order_lem x (fin true m e) p h = absurd p
in_order_lem x (fin false m e) p h =
    let y = fin false m e in
    let s = negative x || true in
    elim (or_yes (lt x y) (eq x y) h) [
      | inl a ↦ or_l (lt x y) (eq x y && s) a
      | inr b ↦ or_r (lt x y) (eq x y && s) (and_i (eq x y) s b (or_r (negative x) true tt))
    ]

number : (x : Float) → T (positive x) → T (fits binary64 x) → Number x
number x p f = record { is_finite = positive-finite x p; is_held = f }

squeezed : (x y : Float) → T (fits binary64 x) → T (fits binary64 y) → T (positive y) → T (le x y) → T (le y x) → x ≡ y
squeezed x y f g p h k =
    let q = between y x y p p k h in
    antisym (number x q f) (number y p g) (in_order_lem x y p h) (in_order_lem y x q k)

-- ---- what lies between two fractions that round to y rounds to y
rounded_between : (y : Float) → T (fits binary64 y) → T (positive y) → (k low high a c : ℕ) → 0 < k → 0 < c → Inside k low high a c
    → round binary64 false low k ≡ y → round binary64 false high k ≡ y → round binary64 false a c ≡ y
rounded_between y f p k low high a c K C i e g =
    squeezed (round binary64 false a c) y (round-fits binary64 false a c) f p
    (rw g at (round_mono binary64 a c high k C K (le_trans (le_of_eq (mul_comm a k)) (le_of_lt i.1))))
    (rw e at (round_mono binary64 low k a c K C (le_trans (le_of_lt i.0) (le_of_eq (mul_comm k a)))))

-- ---- over the table
-- 127 of 256 parts of the way down to the next value and up, in 256ths of the smallest value: no entry lies as near to a half_way point as that
abbrev parts : ℕ
parts = 256 * 2 ^ 1074

abbrev low_side : ℕ → ℕ
low_side b = (256 * count b - 127) * 2 ^ place b

abbrev high_side : ℕ → ℕ
high_side b = (256 * count b + 127) * 2 ^ place b

abbrev rounds_to : ℕ → ℕ → Bool
rounds_to b a = eqb (to_bits binary64 (round binary64 false a parts)) b

rounds_to_lem : (b a : ℕ) → T (rounds_to b a) → round binary64 false a parts ≡ of_bits binary64 b
rounds_to_lem b a h =
    let x = round binary64 false a parts in
    sym (of_bits-to_bits binary64 x (round-fits binary64 false a parts)) ∙ ap (of_bits binary64) (eqb→eq (to_bits binary64 x) b h)

abbrev bit_test : ℕ → ℕ → Bool
bit_test n b = positive (of_bits binary64 b) && (rounds_to b (low_side b) && (rounds_to b (high_side b) && at_ends parts (low_side b) (high_side b) n))

passes : T (every bit_test 0 table_bits)
unfolding table_bits of_bits to_bits round
passes = tt

pub logistic_rounded : (n p q : ℕ) → n < 264 → Around p q → round binary64 false (value_num p q n) (value_den p q n) ≡ logistic_at n
unfolding logistic_at table_bits
logistic_rounded n p q h x = go (get_or table_bits n 0) (every_here bit_test table_bits passes n h)
  where
    go : (b : ℕ) → T (bit_test n b) → round binary64 false (value_num p q n) (value_den p q n) ≡ of_bits binary64 b
    go b t =
        let y = of_bits binary64 b in
        let l = rounds_to b (low_side b) in
        let r = rounds_to b (high_side b) in
        let e = at_ends parts (low_side b) (high_side b) n in
        let t1 = and_r (positive y) (l && (r && e)) t in
        let t2 = and_r l (r && e) t1 in
        rounded_between y (of_bits-fits binary64 b) (and_l (positive y) (l && (r && e)) t) parts (low_side b) (high_side b) (value_num p q n) (value_den p q n)
        (mul-pos (leb→le 1 256 tt) (pow_pos 1074)) (value_den_pos p q n x.divides) (inside-bracket parts (low_side b) (high_side b) n x (and_r r e t2))
        (rounds_to_lem b (low_side b) (and_l l (r && e) t1)) (rounds_to_lem b (high_side b) (and_l r e t2))
