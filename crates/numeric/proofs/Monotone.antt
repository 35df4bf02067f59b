-- Rounded addition and subtraction keep the order.
-- `Rounded x p q` says that x is p - q units of the smallest value, rounded to the format: a larger number of units rounds to a value that is no smaller.
use mathlib.Core.Path.{◌≡◌, refl}
use mathlib.Core.Logic.{◌⊎◌, inl, inr}
use mathlib.Core.Bool.{Bool, true, false, not, ◌&&◌, cond}
use Prim.Native.Nat.{ℕ, ◌+◌, ◌-◌, ◌≤◌, ◌<◌}
use native.Mathlib.Nat.{le_of_lt, mul-le-mul_right}
use native.Mathlib.Omega.{arith}
use lib.Dec.{T, ltb, ltb→lt, nltb→le}
use lib.Pow.{pow_pos}
use lib.Ieee.{Float, nan, inf, fin, binary64, low, fits, le, round, sum, add, sub}
use lib.Ieee.Order.{round_mono}
use lib.Ieee.Scale.{finite}
use Rattle.numeric.proofs.Values.{Number}
use Rattle.numeric.proofs.Units.{L, units_of, plus, minus, sum_units, above, under, le_to_units}
use Rattle.numeric.proofs.Sign.{neg_round, le_neg, round_signed, across, neg_number}

-- ---- four ways two rounded numbers can stand
up_mono : (n k : ℕ) → n ≤ k → T (le (round binary64 false n L) (round binary64 false k L))
up_mono n k h = round_mono binary64 n L k L (pow_pos (low binary64)) (pow_pos (low binary64)) (mul-le-mul_right L h)

down_mono : (n k : ℕ) → k ≤ n → T (le (round binary64 true n L) (round binary64 true k L))
down_mono n k h =
    rw (neg_round n L, neg_round k L) at (le_neg (round binary64 false k L) (round binary64 false n L) (up_mono k n h))

zeros : T (le (round binary64 false 0 L) (round binary64 true 0 L))
unfolding le round
zeros = tt

-- ---- p - q units, rounded
abbrev pub Rounded : Float → ℕ → ℕ → Type 0
Rounded x p q = ((n : ℕ) × (p ≡ q + n) × (x ≡ round binary64 false n L)) ⊎ ((n : ℕ) × (q ≡ p + n) × (x ≡ round binary64 true n L))

both : {x y a b : Float} → x ≡ a → y ≡ b → T (le a b) → T (le x y)
both p q h = rw (p, q) h

more : (p q n p' q' k : ℕ) → p ≡ q + n → p' ≡ q' + k → p + q' ≤ p' + q → n ≤ k
more p q n p' q' k a b h = omega arith

fewer : (p q n p' q' k : ℕ) → q ≡ p + n → q' ≡ p' + k → p + q' ≤ p' + q → k ≤ n
fewer p q n p' q' k a b h = omega arith

nothing : (p q n p' q' k : ℕ) → p ≡ q + n → q' ≡ p' + k → p + q' ≤ p' + q → (n ≡ 0) × (k ≡ 0)
nothing p q n p' q' k a b h = (omega arith, omega arith)

pub rounded_mono : {x y : Float} (p q p' q' : ℕ) → Rounded x p q → Rounded y p' q' → p + q' ≤ p' + q → T (le x y)
rounded_mono p q p' q' (inl a) (inl b) h = both a.2 b.2 (up_mono a.0 b.0 (more p q a.0 p' q' b.0 a.1 b.1 h))
rounded_mono p q p' q' (inr a) (inr b) h = both a.2 b.2 (down_mono a.0 b.0 (fewer p q a.0 p' q' b.0 a.1 b.1 h))
rounded_mono p q p' q' (inr a) (inl b) h =
    both a.2 b.2 (across (round binary64 true a.0 L) (round binary64 false b.0 L) (round_signed true a.0 L) (round_signed false b.0 L))
rounded_mono p q p' q' (inl a) (inr b) h =
    let z = nothing p q a.0 p' q' b.0 a.1 b.1 h in
    both (rw z.0 at a.2) (rw z.1 at b.2) zeros

over_is : (u v : ℕ) → u < v → 0 + v ≡ u + 0 + (v - u)
over_is u v h = omega arith

under_is : (u v : ℕ) → v ≤ u → u + 0 ≡ 0 + v + (u - v)
under_is u v h = omega arith

level_zero : (u v : ℕ) → v ≤ u → u ≤ v → 0 + v ≡ u + 0 + (u - v)
level_zero u v h k = omega arith

same_sign : (u v : ℕ) → u + v ≡ 0 + 0 + (u + v)
same_sign u v = omega arith

rounded_sum : (s : Bool) (u : ℕ) (t : Bool) (v : ℕ) → Rounded (sum binary64 s u t v L) (plus s u + plus t v) (minus s u + minus t v)
unfolding sum
rounded_sum false u false v = inl (u + v, same_sign u v, refl)
rounded_sum true u true v = inr (u + v, same_sign u v, refl)
rounded_sum false u true v = go (ltb u v) (ltb→lt u v) (nltb→le u v)
  where
    go : (b : Bool) → (T b → u < v) → (T (not b) → v ≤ u) → Rounded (cond b (round binary64 true (v - u) L) (round binary64 false (u - v) L)) (u + 0) (0 + v)
    go true h k = inr (v - u, over_is u v (h tt), refl)
    go false h k = inl (u - v, under_is u v (k tt), refl)
rounded_sum true u false v = go (ltb u v) (ltb→lt u v) (nltb→le u v) (ltb v u) (ltb→lt v u) (nltb→le v u)
  where
    go : (b : Bool) → (T b → u < v) → (T (not b) → v ≤ u) → (c : Bool) → (T c → v < u) → (T (not c) → u ≤ v)
        → Rounded (cond b (round binary64 false (v - u) L) (round binary64 (true && c) (u - v) L)) (0 + v) (u + 0)
    go true h k c i j = inl (v - u, over_is u v (h tt), refl)
    go false h k true i j = inr (u - v, under_is u v (le_of_lt (i tt)), refl)
    go false h k false i j = inl (u - v, level_zero u v (k tt) (j tt), refl)

-- ---- the sum of two numbers, and that it grows with its first term
add_rounded_fin : (x y : Float) → T (finite x) → T (finite y) → T (fits binary64 x) → T (fits binary64 y)
    → Rounded (add binary64 x y) (above x + above y) (under x + under y)
add_rounded_fin nan y p q f g = absurd p
add_rounded_fin (inf s) y p q f g = absurd p
add_rounded_fin (fin s m e) nan p q f g = absurd q
add_rounded_fin (fin s m e) (inf t) p q f g = absurd q
add_rounded_fin (fin s m e) (fin t n d) p q f g = rw (sum_units s m e t n d f g) (rounded_sum s (units_of m e) t (units_of n d))

pub add_rounded : {x y : Float} → Number x → Number y → Rounded (add binary64 x y) (above x + above y) (under x + under y)
add_rounded {x} {y} p q = add_rounded_fin x y p.is_finite q.is_finite p.is_held q.is_held

pub add_mono : {x x' y : Float} → Number x → Number x' → Number y → T (le x x') → T (le (add binary64 x y) (add binary64 x' y))
add_mono {x} {x'} {y} p q r h =
    rounded_mono (above x + above y) (under x + under y) (above x' + above y) (under x' + under y) (add_rounded p r) (add_rounded q r)
    (omega (arith, le_to_units p q h))

pub sub_mono : {x x' y : Float} → Number x → Number x' → Number y → T (le x x') → T (le (sub binary64 x y) (sub binary64 x' y))
unfolding sub
sub_mono p q r h = add_mono p q (neg_number r) h
