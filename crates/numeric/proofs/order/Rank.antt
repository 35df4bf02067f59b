-- A natural number for each finite value that fits, in the total order: `key`.
-- A value that is not negative has `mid` plus its size in units of the smallest value, and a negative one lies as far below.
-- `keyed`: total_order x y is the test key x ≤ key y. `key_inj`: two values with one key are one value.
use mathlib.Core.Path.{◌≡◌, refl, sym, ap, ◌∙◌}
use mathlib.Core.Logic.{inl, inr}
use mathlib.Core.Bool.{Bool, true, false, not, ◌&&◌, ◌||◌}
use Prim.Native.Nat.{ℕ, zero, suc, ◌+◌, ◌-◌, ◌*◌, ◌%◌, ◌^◌, ◌≤◌, ◌<◌, zero-le}
use native.Mathlib.Nat.{le_of_lt, le_of_eq, le_of_suc-le-suc, eq-or-lt_of_le, lt_of_lt_of_le, lt_of_not-le, lt_irrefl, zero-lt-suc, zero-mul, mul-one}
use native.Mathlib.Nat.{mul-pos, mul_comm, mul_assoc, mul_left_comm, mul_right_comm, mul-lt-mul_of_pos_right, lt_of_mul-lt-mul_right}
use native.Mathlib.Nat.{eq_of_mul-eq-mul_right, pow-succ', pow-suc, add_left_cancel, add_right_cancel}
use native.Mathlib.Omega.{arith}
use lib.IntN.{ℤ, pos, negsuc}
use lib.Dec.{T, leb, ltb, eqb, leb→le, le→leb, ltb→lt, lt→ltb, eqb→eq}
use lib.Pow.{pow-add, pow_pos, pow-lt}
use lib.Ieee.{Float, nan, inf, fin, binary64, prec, emax, low, up, down, fits, lt, eq, below, level}
use lib.Ieee.Fits.{and_l, and_r, and_i, down_pos, eq→eqb}
use lib.Ieee.Scale.{finite}
use lib.Ieee.Digits.{back}
use mir.Facts.{or_yes}
use Rattle.numeric.specs.TotalOrder.{total_order}
use Rattle.numeric.proofs.Tests.{or_l, or_r, same_test}
use Rattle.numeric.proofs.Values.{flat}

-- ---- the exponent, counted from 2 ^ -l
abbrev pub ex : ℕ → ℤ → ℕ
ex l (pos k) = k + l
ex l (negsuc k) = l - suc k

pub pow_le_back : (a l : ℕ) → 2 ^ a ≤ 2 ^ l → a ≤ l
pow_le_back a l h = le_of_suc-le-suc (lt_of_not-le (λ (g : suc l ≤ a). lt_irrefl (2 ^ l) (lt_of_lt_of_le (pow-lt g) h)))

pub ex_val : (l m : ℕ) (e : ℤ) → down e ≤ 2 ^ l → m * 2 ^ ex l e * down e ≡ m * up e * 2 ^ l
ex_val l m (pos k) h = rw (mul-one, pow-add, mul_assoc)
ex_val l m (negsuc k) h = rw (mul-one, mul_assoc, ← pow-add 2 (l - suc k) (suc k), back l (suc k) (pow_le_back (suc k) l h))

apart_ex : (k j l : ℕ) → suc j ≤ l → k + l ≡ l - suc j → ⊥
apart_ex k j l h e = omega arith

down_inj : (k j l : ℕ) → suc k ≤ l → suc j ≤ l → l - suc k ≡ l - suc j → k ≡ j
down_inj k j l h g e = omega arith

ex_inj : (l : ℕ) (e d : ℤ) → down e ≤ 2 ^ l → down d ≤ 2 ^ l → ex l e ≡ ex l d → e ≡ d
ex_inj l (pos k) (pos j) h g p = ap pos (add_right_cancel l p)
ex_inj l (pos k) (negsuc j) h g p = absurd (apart_ex k j l (pow_le_back (suc j) l g) p)
ex_inj l (negsuc k) (pos j) h g p = absurd (apart_ex j k l (pow_le_back (suc k) l h) (sym p))
ex_inj l (negsuc k) (negsuc j) h g p = ap negsuc (down_inj k j l (pow_le_back (suc k) l h) (pow_le_back (suc j) l g) p)

-- ---- what fitting says of the digits m and the exponent e of a value
pub record InFormat (m : ℕ) (e : ℤ) : Type 0 where
  pub short : m < 2 ^ prec binary64
  pub low-enough : down e ≤ 2 ^ low binary64
  pub below_top : m * 2 ^ ex (low binary64) e < 2 ^ suc (emax binary64) * 2 ^ low binary64
  pub one_way : (m ≡ 0 → e ≡ pos 0) × ((m ≡ 0 → ⊥) → m % 2 ≡ 1)

suc_not_zero : (m : ℕ) → suc m ≡ 0 → ⊥
suc_not_zero m h = omega arith

under_top : (m : ℕ) (e : ℤ) (t l : ℕ) → down e ≤ 2 ^ l → m * up e < t * down e → m * 2 ^ ex l e < t * 2 ^ l
under_top m e t l h g =
    lt_of_mul-lt-mul_right (down e)
    (rw (ex_val l m e h, mul_right_comm t (2 ^ l) (down e)) (mul-lt-mul_of_pos_right g (pow_pos l)))

pub in_format : (s : Bool) (m : ℕ) (e : ℤ) → T (fits binary64 (fin s m e)) → InFormat m e
unfolding fits
in_format s zero e t =
    let p : e ≡ pos 0 = flat e (eqb→eq (up e * down e) 1 t) in
    rw p
    record {
      short = pow_pos (prec binary64);
      low-enough = pow_pos (low binary64);
      below_top = mul-pos (pow_pos (suc (emax binary64))) (pow_pos (low binary64));
      one_way = ((λ _. refl), (λ h. absurd (h refl)));
    }
in_format s (suc m) e t =
    let A = eqb (suc m % 2) 1 in
    let B = ltb (suc m) (2 ^ prec binary64) in
    let C = leb (down e) (2 ^ low binary64) in
    let D = ltb (suc m * up e) (2 ^ suc (emax binary64) * down e) in
    let c : down e ≤ 2 ^ low binary64 = leb→le (down e) (2 ^ low binary64) (and_r (A && B) C (and_l (A && B && C) D t)) in
    record {
      short = ltb→lt (suc m) (2 ^ prec binary64) (and_r A B (and_l (A && B) C (and_l (A && B && C) D t)));
      low-enough = c;
      below_top =
          under_top (suc m) e (2 ^ suc (emax binary64)) (low binary64) c (ltb→lt (suc m * up e) (2 ^ suc (emax binary64) * down e) (and_r (A && B && C) D t));
      one_way = ((λ h. absurd (suc_not_zero m h)), (λ _. eqb→eq (suc m % 2) 1 (and_l A B (and_l (A && B) C (and_l (A && B && C) D t)))));
    }

-- ---- the comparison's products are in the order of the sizes in units
module _ (a b u v L P : ℕ) (p : a * L ≡ u * P) (q : b * L ≡ v * P) (hL : 0 < L) (hP : 0 < P) where
  pub lt_to : a < b → u < v
  lt_to h = lt_of_mul-lt-mul_right P (rw (p, q) at (mul-lt-mul_of_pos_right h hL))

  pub lt_from : u < v → a < b
  lt_from h = lt_of_mul-lt-mul_right L (rw (p, q) (mul-lt-mul_of_pos_right h hP))

  pub eq_to : a ≡ b → u ≡ v
  eq_to h = eq_of_mul-eq-mul_right P hP u v (cc)

  pub eq_from : u ≡ v → a ≡ b
  eq_from h = eq_of_mul-eq-mul_right L hL a b (cc)

pub cross : (l m : ℕ) (e d : ℤ) → down e ≤ 2 ^ l → m * up e * down d * 2 ^ l ≡ m * 2 ^ ex l e * (down e * down d)
cross l m e d h = rw (mul_right_comm (m * up e) (down d) (2 ^ l), ← ex_val l m e h, mul_assoc (m * 2 ^ ex l e) (down e) (down d))

-- ---- the key of a sign and a size below c
abbrev pub signed : ℕ → Bool → ℕ → ℕ
signed c false u = c + u
signed c true u = c - suc u

abbrev ord : Bool → ℕ → Bool → ℕ → Bool
ord s a t b = below s a t b || (level s a t b && (s || not t))

neg_order : (c u v : ℕ) → u < c → v < c → v ≤ u → c - suc u ≤ c - suc v
neg_order c u v h k l = omega arith

neg_order-back : (c u v : ℕ) → u < c → v < c → c - suc u ≤ c - suc v → v ≤ u
neg_order-back c u v h k l = omega arith

across : (c u v : ℕ) → u < c → c - suc u ≤ c + v
across c u v h = omega arith

plus_not_le_minus : (c u v : ℕ) → v < c → c + u ≤ c - suc v → ⊥
plus_not_le_minus c u v h k = omega arith

add_le : (c u v : ℕ) → u ≤ v → c + u ≤ c + v
add_le c u v h = omega arith

add_le_back : (c u v : ℕ) → c + u ≤ c + v → u ≤ v
add_le_back c u v h = omega arith

both_zero : (a b : ℕ) → a + b ≤ 0 → (a ≡ 0) × (b ≡ 0)
both_zero a b h = (omega arith, omega arith)

module _ (a b u v c : ℕ) (lt-uv : a < b → u < v) (lt-ab : u < v → a < b) (gt-uv : b < a → v < u) (gt-ab : v < u → b < a) (eq-uv : a ≡ b → u ≡ v)
    (eq-ab : u ≡ v → a ≡ b) (hu : u < c) (hv : v < c) where
  up_to : T (ord false a false b) → u ≤ v
  up_to t =
      elim (or_yes (ltb a b) (eqb a b && true && true) t) [
        | inl x ↦ le_of_lt (lt-uv (ltb→lt a b x))
        | inr x ↦ le_of_eq (eq-uv (eqb→eq a b (and_l (eqb a b) true (and_l (eqb a b && true) true x))))
      ]

  up_from : u ≤ v → T (ord false a false b)
  up_from h = elim (eq-or-lt_of_le h) [
    | inl e ↦ or_r (ltb a b) (eqb a b && true && true) (and_i (eqb a b && true) true (and_i (eqb a b) true (eq→eqb (eq-ab e)) tt) tt)
    | inr l ↦ or_l (ltb a b) (eqb a b && true && true) (lt→ltb a b (lt-ab l))
  ]

  down_to : T (ord true a true b) → v ≤ u
  down_to t =
      elim (or_yes (ltb b a) (eqb a b && true && true) t) [
        | inl x ↦ le_of_lt (gt-uv (ltb→lt b a x))
        | inr x ↦ le_of_eq (sym (eq-uv (eqb→eq a b (and_l (eqb a b) true (and_l (eqb a b && true) true x)))))
      ]

  down_from : v ≤ u → T (ord true a true b)
  down_from h = elim (eq-or-lt_of_le h) [
    | inl e ↦ or_r (ltb b a) (eqb a b && true && true) (and_i (eqb a b && true) true (and_i (eqb a b) true (eq→eqb (eq-ab (sym e))) tt) tt)
    | inr l ↦ or_l (ltb b a) (eqb a b && true && true) (lt→ltb b a (gt-ab l))
  ]

  minus_plus : T (ord true a false b)
  minus_plus = let h : 0 ≤ a + b = zero-le in elim (eq-or-lt_of_le h) [
    | inl e ↦
        let z = both_zero a b (le_of_eq (sym e)) in
        or_r (ltb 0 (a + b)) (eqb a b && (false || eqb a 0) && true)
        (and_i (eqb a b && eqb a 0) true (and_i (eqb a b) (eqb a 0) (eq→eqb (z.0 ∙ sym z.1)) (eq→eqb z.0)) tt)
    | inr l ↦ or_l (ltb 0 (a + b)) (eqb a b && (false || eqb a 0) && true) (lt→ltb 0 (a + b) l)
  ]

  plus_minus : T (ord false a true b) → ⊥
  plus_minus t = and_r (eqb a b && (false || eqb a 0)) false t

  ord_key : (s t : Bool) → ord s a t b ≡ leb (signed c s u) (signed c t v)
  ord_key false false =
      same_test (ord false a false b) (leb (c + u) (c + v)) (λ x. le→leb (c + u) (c + v) (add_le c u v (up_to x)))
      (λ x. up_from (add_le_back c u v (leb→le (c + u) (c + v) x)))
  ord_key true true =
      same_test (ord true a true b) (leb (c - suc u) (c - suc v)) (λ x. le→leb (c - suc u) (c - suc v) (neg_order c u v hu hv (down_to x)))
      (λ x. down_from (neg_order-back c u v hu hv (leb→le (c - suc u) (c - suc v) x)))
  ord_key true false = same_test (ord true a false b) (leb (c - suc u) (c + v)) (λ x. le→leb (c - suc u) (c + v) (across c u v hu)) (λ x. minus_plus)
  ord_key false true =
      same_test (ord false a true b) (leb (c + u) (c - suc v)) (λ x. absurd (plus_minus x))
      (λ x. absurd (plus_not_le_minus c u v hv (leb→le (c + u) (c - suc v) x)))

-- ---- the key of a value
unfoldable pub mid : ℕ
mid = 2 ^ suc (emax binary64) * 2 ^ low binary64

abbrev pub key : Float → ℕ
key nan = 0
key (inf s) = 0
key (fin s m e) = signed mid s (m * 2 ^ ex (low binary64) e)

opened : (s : Bool) (m : ℕ) (e : ℤ) (t : Bool) (n : ℕ) (d : ℤ) → total_order (fin s m e) (fin t n d) ≡ ord s (m * up e * down d) t (n * up d * down e)
unfolding total_order lt eq
opened s m e t n d = refl

pub keyed : (x y : Float) → T (finite x) → T (finite y) → T (fits binary64 x) → T (fits binary64 y) → total_order x y ≡ leb (key x) (key y)
unfolding mid
keyed nan y p q f g = absurd p
keyed (inf s) y p q f g = absurd p
keyed (fin s m e) nan p q f g = absurd q
keyed (fin s m e) (inf t) p q f g = absurd q
keyed (fin s m e) (fin t n d) p q f g =
    let l = low binary64 in
    let hx = in_format s m e f in
    let hy = in_format t n d g in
    let a = m * up e * down d in
    let b = n * up d * down e in
    let u = m * 2 ^ ex l e in
    let v = n * 2 ^ ex l d in
    let P = down e * down d in
    let pa : a * 2 ^ l ≡ u * P = cross l m e d hx.low-enough in
    let pb : b * 2 ^ l ≡ v * P = rw (mul_comm (down e) (down d)) (cross l n d e hy.low-enough) in
    let hL : 0 < 2 ^ l = pow_pos l in
    let hP : 0 < P = mul-pos (down_pos e) (down_pos d) in
    opened s m e t n d
    ∙ ord_key a b u v mid (lt_to a b u v (2 ^ l) P pa pb hL hP) (lt_from a b u v (2 ^ l) P pa pb hL hP)
    (lt_to b a v u (2 ^ l) P pb pa hL hP) (lt_from b a v u (2 ^ l) P pb pa hL hP)
    (eq_to a b u v (2 ^ l) P pa pb hL hP) (eq_from a b u v (2 ^ l) P pa pb hL hP) hx.below_top hy.below_top s t

-- ---- one value for one key
even_odd : (m t : ℕ) → m % 2 ≡ 1 → m ≡ 2 * t → ⊥
even_odd m t o h = omega arith

odd_pow : (m n a b : ℕ) → m % 2 ≡ 1 → n % 2 ≡ 1 → m * 2 ^ a ≡ n * 2 ^ b → (m ≡ n) × (a ≡ b)
odd_pow m n zero zero o p h = (sym (mul-one m) ∙ h ∙ mul-one n, refl)
odd_pow m n zero (suc b) o p h = absurd (even_odd m (n * 2 ^ b) o (sym (mul-one m) ∙ h ∙ rw (pow-succ' 2 b, mul_left_comm n 2 (2 ^ b))))
odd_pow m n (suc a) zero o p h = absurd (even_odd n (m * 2 ^ a) p (sym (mul-one n) ∙ sym h ∙ rw (pow-succ' 2 a, mul_left_comm m 2 (2 ^ a))))
odd_pow m n (suc a) (suc b) o p h =
    let r = odd_pow m n a b o p (eq_of_mul-eq-mul_right 2 (zero-lt-suc 1) (m * 2 ^ a) (n * 2 ^ b)
    (rw (mul_assoc m (2 ^ a) 2, mul_assoc n (2 ^ b) 2, ← pow-suc 2 a, ← pow-suc 2 b) h)) in
    (r.0, ap suc r.1)

not_zero : (m a : ℕ) → suc m * 2 ^ a ≡ 0 → ⊥
not_zero m a h = lt_irrefl 0 (rw h at (mul-pos (zero-lt-suc m) (pow_pos a)))

pub size_inj : (m : ℕ) (e : ℤ) (n : ℕ) (d : ℤ) → InFormat m e → InFormat n d → m * 2 ^ ex (low binary64) e ≡ n * 2 ^ ex (low binary64) d → (m ≡ n) × (e ≡ d)
size_inj zero e zero d h k p = (refl, h.one_way.0 refl ∙ sym (k.one_way.0 refl))
size_inj zero e (suc n) d h k p = absurd (not_zero n (ex (low binary64) d) (sym p ∙ zero-mul (2 ^ ex (low binary64) e)))
size_inj (suc m) e zero d h k p = absurd (not_zero m (ex (low binary64) e) (p ∙ zero-mul (2 ^ ex (low binary64) d)))
size_inj (suc m) e (suc n) d h k p =
    let r = odd_pow (suc m) (suc n) (ex (low binary64) e) (ex (low binary64) d) (h.one_way.1 (suc_not_zero m)) (k.one_way.1 (suc_not_zero n)) p in
    (r.0, ex_inj (low binary64) e d h.low-enough k.low-enough r.1)

neg_inj : (c u v : ℕ) → u < c → v < c → c - suc u ≡ c - suc v → u ≡ v
neg_inj c u v h k e = omega arith

signed_inj : (c : ℕ) (s t : Bool) (u v : ℕ) → u < c → v < c → signed c s u ≡ signed c t v → (s ≡ t) × (u ≡ v)
signed_inj c true true u v h k e = (refl, neg_inj c u v h k e)
signed_inj c false false u v h k e = (refl, add_left_cancel c e)
signed_inj c false true u v h k e = absurd (plus_not_le_minus c u v k (le_of_eq e))
signed_inj c true false u v h k e = absurd (plus_not_le_minus c v u h (le_of_eq (sym e)))

pub key_inj : (x y : Float) → T (finite x) → T (finite y) → T (fits binary64 x) → T (fits binary64 y) → key x ≡ key y → x ≡ y
unfolding mid
key_inj nan y p q f g h = absurd p
key_inj (inf s) y p q f g h = absurd p
key_inj (fin s m e) nan p q f g h = absurd q
key_inj (fin s m e) (inf t) p q f g h = absurd q
key_inj (fin s m e) (fin t n d) p q f g h =
    let hx = in_format s m e f in
    let hy = in_format t n d g in
    let r = signed_inj mid s t (m * 2 ^ ex (low binary64) e) (n * 2 ^ ex (low binary64) d) hx.below_top hy.below_top h in
    let w = size_inj m e n d hx hy r.1 in
    λ i. fin (r.0 i) (w.0 i) (w.1 i)
