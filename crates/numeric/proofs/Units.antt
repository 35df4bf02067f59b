-- Numbers, each as a sign and a whole number of units of the smallest value: the order, and the sum.
-- A signed number is a pair of naturals, what is above zero and what is under it: `plus s u` and `minus s u`, one of which is 0.
-- So x ≤ y is above x + under y ≤ above y + under x, which `omega` reads.
use mathlib.Core.Path.{◌≡◌, refl, sym, ◌∙◌}
use mathlib.Core.Logic.{◌⊎◌, inl, inr}
use mathlib.Core.Bool.{Bool, true, false, ◌&&◌, ◌||◌, cond}
use Prim.Native.Nat.{ℕ, zero, suc, ◌+◌, ◌-◌, ◌*◌, ◌^◌, ◌≤◌, ◌<◌, zero-le}
use native.Mathlib.Nat.{add-mul, add-zero, add_comm, mul_comm, mul-sub, mul-pos, zero-add, zero-mul, mul-le-mul_right, le_of_mul-le-mul_right}
use native.Mathlib.Omega.{arith}
use borrow.Author.Tests.{le-ltb}
use lib.IntN.{ℤ}
use lib.Dec.{T, leb, ltb, eqb, leb→le, le→leb, ltb→lt, lt→ltb, eqb→eq}
use lib.Pow.{pow_pos}
use lib.Ieee.{Float, nan, inf, fin, binary64, low, up, down, fits, lt, le, below, level, round, sum, add}
use lib.Ieee.Fits.{and_l, and_r, and_i, down_pos, eq→eqb}
use lib.Ieee.Scale.{finite, round_same}
use Rattle.numeric.proofs.Tests.{or_l, or_r, same_test}
use Rattle.numeric.proofs.Values.{Number, at_most, of_at_most}
use Rattle.numeric.proofs.order.Rank.{ex, in_format, cross, lt_to, lt_from}

abbrev pub L : ℕ
L = 2 ^ low binary64

abbrev pub units_of : ℕ → ℤ → ℕ
units_of m e = m * 2 ^ ex (low binary64) e

abbrev pub plus : Bool → ℕ → ℕ
plus s u = cond s 0 u

abbrev pub minus : Bool → ℕ → ℕ
minus s u = cond s u 0

-- how far apart two numbers are
abbrev pub dist : ℕ → ℕ → ℕ
dist u v = u - v + (v - u)

-- ---- ±a < ±b, and ±a ≤ ±b
abbrev pub leq : Bool → ℕ → Bool → ℕ → Bool
leq s a t b = below s a t b || level s a t b

pub below_is : (s : Bool) (a : ℕ) (t : Bool) (b : ℕ) → below s a t b ≡ ltb (plus s a + minus t b) (plus t b + minus s a)
below_is false a false b = rw (add-zero a, add-zero b)
below_is true a true b = rw (zero-add a, zero-add b)
below_is true a false b = rw (add_comm a b)
below_is false a true b = sym (le-ltb (a + b) 0 zero-le)

sum_pos : (a b : ℕ) → 0 < a + b ⊎ ((a ≡ 0) × (b ≡ 0))
sum_pos zero zero = inr (refl, refl)
sum_pos zero (suc b) = inl (omega arith)
sum_pos (suc a) b = inl (omega arith)

pub minus_plus : (a b : ℕ) → T (leq true a false b)
minus_plus a b =
    elim (sum_pos a b) [
      | inl h ↦ or_l (ltb 0 (a + b)) (eqb a b && eqb a 0) (lt→ltb 0 (a + b) h)
      | inr z ↦ or_r (ltb 0 (a + b)) (eqb a b && eqb a 0) (and_i (eqb a b) (eqb a 0) (eq→eqb (z.0 ∙ sym z.1)) (eq→eqb z.0))
    ]

eqb_sym : (a b : ℕ) → eqb a b ≡ eqb b a
eqb_sym a b = same_test (eqb a b) (eqb b a) (λ x. eq→eqb (sym (eqb→eq a b x))) (λ x. eq→eqb (sym (eqb→eq b a x)))

up_is : (a b : ℕ) → (ltb a b || (eqb a b && true)) ≡ leb a b
up_is a b = same_test (ltb a b || (eqb a b && true)) (leb a b) (λ x. le→leb a b (at_most a b x)) (λ x. of_at_most a b (leb→le a b x))

pub leq_is : (s : Bool) (a : ℕ) (t : Bool) (b : ℕ) → leq s a t b ≡ leb (plus s a + minus t b) (plus t b + minus s a)
leq_is false a false b = rw (add-zero a, add-zero b) (up_is a b)
leq_is true a true b = rw (eqb_sym a b, zero-add a, zero-add b) (up_is b a)
leq_is true a false b = same_test (leq true a false b) (leb 0 (b + a)) (λ x. le→leb 0 (b + a) zero-le) (λ x. minus_plus a b)
leq_is false a true b =
    same_test (leq false a true b) (leb (a + b) 0)
    (λ x.
    let p = eqb→eq a b (and_l (eqb a b) (eqb a 0) x) in
    let q = eqb→eq a 0 (and_r (eqb a b) (eqb a 0) x) in
    le→leb (a + b) 0 (omega arith))
    (λ x.
    let h = leb→le (a + b) 0 x in
    and_i (eqb a b) (eqb a 0) (eq→eqb (omega arith)) (eq→eqb (omega arith)))

-- ---- in units
module _ (s : Bool) (m : ℕ) (e : ℤ) (t : Bool) (n : ℕ) (d : ℤ) (f : T (fits binary64 (fin s m e))) (g : T (fits binary64 (fin t n d))) where
  abbrev a : ℕ
  a = m * up e * down d

  abbrev b : ℕ
  b = n * up d * down e

  abbrev P : ℕ
  P = down e * down d

  P_pos : 0 < P
  P_pos = mul-pos (down_pos e) (down_pos d)

  at_a : a * L ≡ units_of m e * P
  at_a = cross (low binary64) m e d (in_format s m e f).low-enough

  at_b : b * L ≡ units_of n d * P
  at_b = rw (mul_comm (down e) (down d)) (cross (low binary64) n d e (in_format t n d g).low-enough)

  abbrev u : ℕ
  u = units_of m e

  abbrev v : ℕ
  v = units_of n d

  L_pos : 0 < L
  L_pos = pow_pos (low binary64)

  -- a test of two numbers is that of their units
  ltb_same : (x j y k : ℕ) → x * L ≡ j * P → y * L ≡ k * P → ltb x y ≡ ltb j k
  ltb_same x j y k p q =
      same_test (ltb x y) (ltb j k) (λ h. lt→ltb j k (lt_to x y j k L P p q L_pos P_pos (ltb→lt x y h)))
      (λ h. lt→ltb x y (lt_from x y j k L P p q L_pos P_pos (ltb→lt j k h)))

  leb_same : (x j y k : ℕ) → x * L ≡ j * P → y * L ≡ k * P → leb x y ≡ leb j k
  leb_same x j y k p q =
      same_test (leb x y) (leb j k) (λ h. le→leb j k (le_of_mul-le-mul_right (rw (p, q) at (mul-le-mul_right L (leb→le x y h))) P_pos))
      (λ h. le→leb x y (le_of_mul-le-mul_right (rw (p, q) (mul-le-mul_right P (leb→le j k h))) L_pos))

  sum_is : (x j y k : ℕ) → x * L ≡ j * P → y * L ≡ k * P → (x + y) * L ≡ (j + k) * P
  sum_is x j y k p q = add-mul x y L ∙ (λ i. p i + q i) ∙ sym (add-mul j k P)

  diff_is : (x y j k : ℕ) → x * L ≡ j * P → y * L ≡ k * P → (x - y) * L ≡ (j - k) * P
  diff_is x y j k p q =
      mul_comm (x - y) L ∙ mul-sub L x y ∙ (λ i. (mul_comm L x ∙ p) i - (mul_comm L y ∙ q) i)
      ∙ sym (mul_comm (j - k) P ∙ mul-sub P j k ∙ (λ i. mul_comm P j i - mul_comm P k i))

  plus_is : (r : Bool) (x j : ℕ) → x * L ≡ j * P → plus r x * L ≡ plus r j * P
  plus_is true x j p = zero-mul L ∙ sym (zero-mul P)
  plus_is false x j p = p

  minus_is : (r : Bool) (x j : ℕ) → x * L ≡ j * P → minus r x * L ≡ minus r j * P
  minus_is true x j p = p
  minus_is false x j p = zero-mul L ∙ sym (zero-mul P)

  first : (plus s a + minus t b) * L ≡ (plus s u + minus t v) * P
  first = sum_is (plus s a) (plus s u) (minus t b) (minus t v) (plus_is s a u at_a) (minus_is t b v at_b)

  second : (plus t b + minus s a) * L ≡ (plus t v + minus s u) * P
  second = sum_is (plus t b) (plus t v) (minus s a) (minus s u) (plus_is t b v at_b) (minus_is s a u at_a)

  lt_units : lt (fin s m e) (fin t n d) ≡ ltb (plus s u + minus t v) (plus t v + minus s u)
  unfolding lt
  lt_units = below_is s a t b ∙ ltb_same (plus s a + minus t b) (plus s u + minus t v) (plus t b + minus s a) (plus t v + minus s u) first second

  le_units : le (fin s m e) (fin t n d) ≡ leb (plus s u + minus t v) (plus t v + minus s u)
  unfolding le
  le_units = leq_is s a t b ∙ leb_same (plus s a + minus t b) (plus s u + minus t v) (plus t b + minus s a) (plus t v + minus s u) first second

  rounds : (r : Bool) (x k : ℕ) → x * L ≡ k * P → round binary64 r x P ≡ round binary64 r k L
  rounds r x k p = round_same binary64 r x P k L P_pos L_pos p

  -- the sum of two values is that of two whole numbers of units
  pub sum_units : add binary64 (fin s m e) (fin t n d) ≡ sum binary64 s u t v L
  unfolding add sum
  sum_units =
      let both = rounds s (a + b) (u + v) (sum_is a u b v at_a at_b) in
      let right = rounds t (b - a) (v - u) (diff_is b a v u at_b at_a) in
      let left = rounds (s && ltb b a) (a - b) (u - v) (diff_is a b u v at_a at_b) in
      rw (both, right, left, ltb_same a u b v at_a at_b, ltb_same b v a u at_b at_a)

-- ---- of a value
abbrev pub above : Float → ℕ
above nan = 0
above (inf s) = 0
above (fin s m e) = plus s (units_of m e)

abbrev pub under : Float → ℕ
under nan = 0
under (inf s) = 0
under (fin s m e) = minus s (units_of m e)

abbrev InOrder : Float → Float → Type 0
InOrder x y = (le x y ≡ leb (above x + under y) (above y + under x)) × (lt x y ≡ ltb (above x + under y) (above y + under x))

in_order : (x y : Float) → T (finite x) → T (finite y) → T (fits binary64 x) → T (fits binary64 y) → InOrder x y
in_order nan y p q f g = absurd p
in_order (inf s) y p q f g = absurd p
in_order (fin s m e) nan p q f g = absurd q
in_order (fin s m e) (inf t) p q f g = absurd q
in_order (fin s m e) (fin t n d) p q f g = (le_units s m e t n d f g, lt_units s m e t n d f g)

module _ {x y : Float} (p : Number x) (q : Number y) where
  order : InOrder x y
  order = in_order x y p.is_finite q.is_finite p.is_held q.is_held

  pub le_to_units : T (le x y) → above x + under y ≤ above y + under x
  le_to_units h = leb→le (above x + under y) (above y + under x) (rw (order.0) at h)

  pub le_of_units : above x + under y ≤ above y + under x → T (le x y)
  le_of_units h = rw (order.0) (le→leb (above x + under y) (above y + under x) h)

  pub lt_to_units : T (lt x y) → above x + under y < above y + under x
  lt_to_units h = ltb→lt (above x + under y) (above y + under x) (rw (order.1) at h)

  pub lt_of_units : above x + under y < above y + under x → T (lt x y)
  lt_of_units h = rw (order.1) (lt→ltb (above x + under y) (above y + under x) h)
