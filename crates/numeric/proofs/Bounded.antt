-- Sizes: `Bounded x B` says that x is finite and at most the whole number B in size.
-- Each operation's result is bounded by what its exact result is bounded by, as long as that is a whole number up to 2 ^ 53:
-- such a number is a value of the format, and rounding keeps the order.
use mathlib.Core.Path.{◌≡◌, refl, sym, ◌∙◌}
use mathlib.Core.Logic.{inl, inr}
use mathlib.Core.Bool.{Bool, true, false, ◌&&◌, ◌||◌, beq, cond, true≢false}
use Prim.Native.Nat.{ℕ, zero, suc, ◌+◌, ◌-◌, ◌*◌, ◌^◌, ◌≤◌, ◌<◌}
use native.Mathlib.Nat.{le_trans, le_of_eq, lt_of_le_of_lt, zero-lt-suc, mul-one, one-mul, mul_comm, mul_assoc, mul_right_comm, mul-mul-mul_comm}
use native.Mathlib.Nat.{mul-le-mul, mul-le-mul_right, le_of_mul-le-mul_right, mul-pos, mul-lt-mul_of_pos_right, add-mul, not-suc-le-zero}
use native.Mathlib.Omega.{arith}
use lib.IntN.{ℤ, pos}
use lib.Dec.{T, ltb, eqb, ltb→lt, lt→ltb, eqb→eq, eqb-suc-zero}
use lib.Ieee.{Float, nan, inf, fin, binary64, fits, unlike, up, down, lt, le, below, round, neg, sum, add, sub, mul, div, of_int}
use lib.Ieee.Fits.{and_l, up_pos, down_pos}
use lib.Ieee.Exact.{HasValue}
use lib.Ieee.Order.{round_mono}
use lib.Ieee.Back.{round_whole}
use lib.Ieee.Scale.{finite}
use mir.Facts.{or_yes}
use Rattle.numeric.proofs.Values.{Number, at_most}
use Rattle.numeric.proofs.Sign.{Signed, neg_round, round_signed}
use Rattle.numeric.specs.Tenths.{InTenthsRange}

abbrev pub Bounded : Float → ℕ → Type 0
Bounded nan B = ⊥
Bounded (inf s) B = ⊥
Bounded (fin s m e) B = m * up e ≤ B * down e

pub bounded_finite : (x : Float) (B : ℕ) → Bounded x B → T (finite x)
bounded_finite nan B h = absurd h
bounded_finite (inf s) B h = absurd h
bounded_finite (fin s m e) B h = tt

pub bounded_more : (x : Float) (B C : ℕ) → B ≤ C → Bounded x B → Bounded x C
bounded_more nan B C k h = absurd h
bounded_more (inf s) B C k h = absurd h
bounded_more (fin s m e) B C k h = le_trans h (mul-le-mul_right (down e) k)

pub bounded_neg : (x : Float) (B : ℕ) → Bounded x B → Bounded (neg x) B
unfolding neg
bounded_neg nan B h = absurd h
bounded_neg (inf s) B h = absurd h
bounded_neg (fin s m e) B h = h

-- ---- rounding
-- m * ue / de ≤ n * ud / dd = B
chain : (x de y dd B : ℕ) → 0 < dd → x * dd ≤ y * de → y * 1 ≡ B * dd → x ≤ B * de
chain x de y dd B h p q = let e : y ≡ B * dd = rw mul-one at q in le_of_mul-le-mul_right (rw (e, mul_right_comm B dd de) at p) h

under : (x y : Float) (B : ℕ) → Signed x false → T (le x y) → HasValue y false B 1 → Bounded x B
unfolding le
under nan y B s h v = absurd s
under (inf true) y B s h v = absurd (true≢false s)
under (inf false) nan B s h v = absurd v
under (inf false) (inf t) B s h v = absurd v
under (inf false) (fin t n d) B s h v = absurd h
under (fin true m e) y B s h v = absurd (true≢false s)
under (fin false m e) nan B s h v = absurd v
under (fin false m e) (inf t) B s h v = absurd v
under (fin false m e) (fin true n d) B s h v = absurd (true≢false v.0)
under (fin false m e) (fin false n d) B s h v =
    chain (m * up e) (down e) (n * up d) (down d) B (down_pos d) (at_most (m * up e * down d) (n * up d * down e) h) v.1

round_up : (num den B : ℕ) → 0 < den → B ≤ 2 ^ 53 → num ≤ B * den → Bounded (round binary64 false num den) B
round_up num den B D k h =
    under (round binary64 false num den) (round binary64 false B 1) B (round_signed false num den)
    (round_mono binary64 num den B 1 D (zero-lt-suc 0) (le_trans (le_of_eq (mul-one num)) h)) (round_whole binary64 false B k)

pub round_bounded : (s : Bool) (num den B : ℕ) → 0 < den → B ≤ 2 ^ 53 → num ≤ B * den → Bounded (round binary64 s num den) B
round_bounded false num den B D k h = round_up num den B D k h
round_bounded true num den B D k h =
    rw (neg_round num den) at (bounded_neg (round binary64 false num den) B (round_up num den B D k h))

-- ---- the operations
pub cond_bounded : (b : Bool) (x y : Float) (B : ℕ) → Bounded x B → Bounded y B → Bounded (cond b x y) B
cond_bounded true x y B h k = h
cond_bounded false x y B h k = k

less_both : (a b p : ℕ) → a ≤ p → a - b ≤ p
less_both a b p h = omega arith

add_both : (a b p q r : ℕ) → a ≤ p → b ≤ q → r ≡ p + q → a + b ≤ r
add_both a b p q r h k e = omega arith

left : (p q r : ℕ) → r ≡ p + q → p ≤ r
left p q r e = omega arith

right : (p q r : ℕ) → r ≡ p + q → q ≤ r
right p q r e = omega arith

sum_bounded : (s : Bool) (a : ℕ) (t : Bool) (b c B C : ℕ) → 0 < c → B + C ≤ 2 ^ 53 → a ≤ B * c → b ≤ C * c → Bounded (sum binary64 s a t b c) (B + C)
unfolding sum
sum_bounded s a t b c B C c_pos k h g =
    let e = add-mul B C c in
    cond_bounded (beq s t) (round binary64 s (a + b) c) (cond (ltb a b) (round binary64 t (b - a) c) (round binary64 (s && ltb b a) (a - b) c)) (B + C)
    (round_bounded s (a + b) c (B + C) c_pos k (add_both a b (B * c) (C * c) ((B + C) * c) h g e))
    (cond_bounded (ltb a b) (round binary64 t (b - a) c) (round binary64 (s && ltb b a) (a - b) c) (B + C)
    (round_bounded t (b - a) c (B + C) c_pos k (less_both b a ((B + C) * c) (le_trans g (right (B * c) (C * c) ((B + C) * c) e))))
    (round_bounded (s && ltb b a) (a - b) c (B + C) c_pos k (less_both a b ((B + C) * c) (le_trans h (left (B * c) (C * c) ((B + C) * c) e)))))

pub add_bounded : (x y : Float) (B C : ℕ) → B + C ≤ 2 ^ 53 → Bounded x B → Bounded y C → Bounded (add binary64 x y) (B + C)
unfolding add
add_bounded nan y B C k h g = absurd h
add_bounded (inf s) y B C k h g = absurd h
add_bounded (fin s m e) nan B C k h g = absurd g
add_bounded (fin s m e) (inf t) B C k h g = absurd g
add_bounded (fin s m e) (fin t n d) B C k h g =
    sum_bounded s (m * up e * down d) t (n * up d * down e) (down e * down d) B C (mul-pos (down_pos e) (down_pos d)) k
    (le_trans (mul-le-mul_right (down d) h) (le_of_eq (mul_assoc B (down e) (down d))))
    (le_trans (mul-le-mul_right (down e) g) (le_of_eq (mul_right_comm C (down d) (down e) ∙ mul_assoc C (down e) (down d))))

pub sub_bounded : (x y : Float) (B C : ℕ) → B + C ≤ 2 ^ 53 → Bounded x B → Bounded y C → Bounded (sub binary64 x y) (B + C)
unfolding sub
sub_bounded x y B C k h g = add_bounded x (neg y) B C k h (bounded_neg y C g)

pub mul_bounded : (x y : Float) (B C : ℕ) → B * C ≤ 2 ^ 53 → Bounded x B → Bounded y C → Bounded (mul binary64 x y) (B * C)
unfolding mul
mul_bounded nan y B C k h g = absurd h
mul_bounded (inf s) y B C k h g = absurd h
mul_bounded (fin s m e) nan B C k h g = absurd g
mul_bounded (fin s m e) (inf t) B C k h g = absurd g
mul_bounded (fin s m e) (fin t n d) B C k h g =
    round_bounded (unlike s t) (m * up e * (n * up d)) (down e * down d) (B * C) (mul-pos (down_pos e) (down_pos d)) k
    (le_trans (mul-le-mul h g) (le_of_eq (mul-mul-mul_comm B (down e) C (down d))))

-- ---- the quotient

div_opened : (s : Bool) (m : ℕ) (e : ℤ) (t : Bool) (n : ℕ) (d : ℤ)
    → div binary64 (fin s m e) (fin t (suc n) d) ≡ round binary64 (unlike s t) (m * up e * down d) (suc n * up d * down e)
unfolding div
div_opened s m e t n d = rw (eqb-suc-zero n)

-- y is no zero, and at least B / C in size
abbrev Reaches : Float → ℕ → ℕ → Type 0
Reaches nan B C = ⊥
Reaches (inf s) B C = ⊥
Reaches (fin t n d) B C = (0 < n) × (B * down d ≤ C * (n * up d))

quotient : (x y : Float) (B C : ℕ) → C ≤ 2 ^ 53 → Bounded x B → Reaches y B C → Bounded (div binary64 x y) C
quotient nan y B C k h g = absurd h
quotient (inf s) y B C k h g = absurd h
quotient (fin s m e) nan B C k h g = absurd g
quotient (fin s m e) (inf t) B C k h g = absurd g
quotient (fin s m e) (fin t zero d) B C k h g = absurd (not-suc-le-zero g.0)
quotient (fin s m e) (fin t (suc n) d) B C k h g =
    let N = suc n * up d in
    rw (div_opened s m e t n d)
    (round_bounded (unlike s t) (m * up e * down d) (N * down e) C (mul-pos (mul-pos (zero-lt-suc n) (up_pos d)) (down_pos e)) k
    (le_trans (mul-le-mul_right (down d) h)
    (le_trans (le_of_eq (mul_right_comm B (down e) (down d))) (le_trans (mul-le-mul_right (down e) g.1) (le_of_eq (mul_assoc C N (down e)))))))

-- by a y that is 1 / K at least in size
abbrev pub AtLeast : Float → ℕ → Type 0
AtLeast nan K = ⊥
AtLeast (inf s) K = ⊥
AtLeast (fin t n d) K = down d ≤ K * (n * up d)

no_zero : (u d k : ℕ) → 0 < d → d ≤ k * (0 * u) → ⊥
no_zero u d k h g = omega arith

reaches : (y : Float) (B K : ℕ) → AtLeast y K → Reaches y B (B * K)
reaches nan B K g = g
reaches (inf s) B K g = g
reaches (fin t zero d) B K g = absurd (no_zero (up d) (down d) K (down_pos d) g)
reaches (fin t (suc n) d) B K g = (zero-lt-suc n, le_trans (mul-le-mul (le_of_eq refl) g) (le_of_eq (sym (mul_assoc B K (suc n * up d)))))

pub div_bounded : (x y : Float) (B K : ℕ) → B * K ≤ 2 ^ 53 → Bounded x B → AtLeast y K → Bounded (div binary64 x y) (B * K)
div_bounded x y B K k h g = quotient x y B (B * K) k h (reaches y B K g)

-- by a whole number m: the mean of m values of which each is at most B in size
whole_no_zero : (u m D : ℕ) → 0 < m * D → 0 * u * 1 ≡ m * D → ⊥
whole_no_zero u m D h v = omega arith

whole_reaches : (y : Float) (m B : ℕ) → 0 < m → HasValue y false m 1 → Reaches y (m * B) B
whole_reaches nan m B l v = absurd v
whole_reaches (inf t) m B l v = absurd v
whole_reaches (fin t zero d) m B l v = absurd (whole_no_zero (up d) m (down d) (mul-pos l (down_pos d)) v.1)
whole_reaches (fin t (suc n) d) m B l v =
    (zero-lt-suc n, le_of_eq (rw (mul_comm m B, mul_assoc B m (down d), ← v.1, mul-one (suc n * up d))))

pub mean_bounded : (x : Float) (m B : ℕ) → 0 < m → m ≤ 2 ^ 53 → B ≤ 2 ^ 53 → Bounded x (m * B) → Bounded (div binary64 x (of_int binary64 (pos m))) B
unfolding of_int
mean_bounded x m B l f k h = quotient x (of_int binary64 (pos m)) (m * B) B k h (whole_reaches (of_int binary64 (pos m)) m B l (round_whole binary64 false m f))

-- ---- what follows of a bounded value: its tenths can be asked, and it is a number
pos_sums : (a b : ℕ) → a < b → (0 < b + a) × (0 < a + b)
pos_sums a b h = (omega arith, omega arith)

signs : (s : Bool) (a b : ℕ) → a < b → T (below true b s a) × T (below s a false b)
signs true a b l = (lt→ltb a b l, lt→ltb 0 (a + b) (pos_sums a b l).1)
signs false a b l = (lt→ltb 0 (b + a) (pos_sums a b l).0, lt→ltb a b l)

below_limit : (m : ℕ) (e : ℤ) (B : ℕ) → B < 2 ^ 53 → m * up e ≤ B * down e → m * up e * 1 < 1 * 2 ^ 53 * down e
below_limit m e B h g = rw (mul-one (m * up e)) (lt_of_le_of_lt g (mul-lt-mul_of_pos_right h (down_pos e)))

limits : (x : Float) (B : ℕ) → B < 2 ^ 53 → Bounded x B → T (lt (fin true 1 (pos 53)) x) × T (lt x (fin false 1 (pos 53)))
unfolding lt
limits nan B h g = absurd g
limits (inf s) B h g = absurd g
limits (fin s m e) B h g = signs s (m * up e * 1) (1 * 2 ^ 53 * down e) (below_limit m e B h g)

pub bounded_tenths : (x : Float) (B : ℕ) → B < 2 ^ 53 → Bounded x B → InTenthsRange x
bounded_tenths x B h g = record { above = (limits x B h g).0; below = (limits x B h g).1 }

pub bounded_number : (x : Float) (B : ℕ) → T (fits binary64 x) → Bounded x B → Number x
bounded_number x B f h = record { is_finite = bounded_finite x B h; is_held = f }

-- ---- from a test of range, from -2 ^ k to 2 ^ k
leq_plus : (a b c : ℕ) → b ≡ c → T (ltb (a * 1) b || (eqb (a * 1) b && true)) → a ≤ c
leq_plus a b c p t = let q = at_most (a * 1) b t in omega arith

leq_minus : (a b c : ℕ) → b ≡ c → T (ltb (a * 1) b || (eqb b (a * 1) && true)) → a ≤ c
leq_minus a b c p t =
    elim (or_yes (ltb (a * 1) b) (eqb b (a * 1) && true) t) [
      | inl y ↦ let q = ltb→lt (a * 1) b y in omega arith
      | inr y ↦ let q = eqb→eq b (a * 1) (and_l (eqb b (a * 1)) true y) in omega arith
    ]

pub le_bounded : (x : Float) (k : ℕ) → T (le (fin true 1 (pos k)) x) → T (le x (fin false 1 (pos k))) → Bounded x (2 ^ k)
unfolding le
le_bounded nan k h g = absurd g
le_bounded (inf true) k h g = absurd h
le_bounded (inf false) k h g = absurd g
le_bounded (fin true m e) k h g = leq_minus (m * up e) (1 * 2 ^ k * down e) (2 ^ k * down e) (rw (one-mul (2 ^ k))) h
le_bounded (fin false m e) k h g = leq_plus (m * up e) (1 * 2 ^ k * down e) (2 ^ k * down e) (rw (one-mul (2 ^ k))) g
