-- The size of a finite value, read off the fields of its bit pattern.
use mathlib.Core.Path.{◌≡◌, refl, sym, ◌∙◌}
use mathlib.Core.Bool.{Bool, true, false, cond}
use Prim.Native.Nat.{ℕ, suc, ◌+◌, ◌-◌, ◌*◌, ◌/◌, ◌%◌, ◌^◌, ◌≤◌, ◌<◌}
use native.Mathlib.Nat.{le_of_eq, lt_of_lt_of_le, lt_of_le_of_lt, lt_of_not-le, lt_irrefl, mul-one, mul_assoc, mul_right_comm, mul-le-mul_right}
use native.Mathlib.Nat.{mul-lt-mul_of_pos_right, lt_of_mul-lt-mul_right, eq_of_mul-eq-mul_right, le-add_right, mod-lt}
use native.Mathlib.Omega.{arith}
use lib.IntN.{pos}
use lib.Dec.{T, eqb}
use lib.Pow.{pow-add, pow_pos, pow_mono}
use lib.Ieee.{Float, nan, inf, fin, binary64, prec, low, up, down, odd, lt, fits, hid, ones, top, of_fields, of_bits, to_bits}
use lib.Ieee.Digits.{Equals, odd_val}
use lib.Ieee.Bits.{of_bits-to_bits}
use lib.Ieee.Scale.{finite}
use Rattle.numeric.specs.Tenths.{InTenthsRange}
use Rattle.numeric.specs.passes.Tenths.{ScaledOf}
use Rattle.numeric.proofs.Values.{below-whole}

-- ---- between -2 ^ 53 and 2 ^ 53
abbrev pub SizeBelow : Float → Type 0
SizeBelow nan = ⊥
SizeBelow (inf s) = ⊥
SizeBelow (fin s m e) = m * up e < 2 ^ 53 * down e

between : (v : Float) → T (lt (fin true 1 (pos 53)) v) → T (lt v (fin false 1 (pos 53))) → SizeBelow v
unfolding lt
between nan h k = absurd h
between (inf true) h k = absurd h
between (inf false) h k = absurd k
between (fin true m e) h k = below-whole (m * up e) (2 ^ 53) (down e) h
between (fin false m e) h k = below-whole (m * up e) (2 ^ 53) (down e) k

pub range_within : (v : Float) → InTenthsRange v → SizeBelow v
range_within v r = between v r.above r.below

within-finite : (v : Float) → SizeBelow v → T (finite v)
within-finite nan h = absurd h
within-finite (inf s) h = absurd h
within-finite (fin s m e) h = tt

-- ---- the fields of the pattern
abbrev exp_field : Float → ℕ
exp_field v = to_bits binary64 v % top binary64 / hid binary64

abbrev digit_field : Float → ℕ
digit_field v = to_bits binary64 v % hid binary64

read_back : (v : Float) → T (fits binary64 v) → (s : Bool) × (of_fields binary64 s (exp_field v) (digit_field v) ≡ v)
unfolding of_bits
read_back v f = (_, of_bits-to_bits binary64 v f)

at_zero : (s : Bool) (t : ℕ) → of_fields binary64 s 0 t ≡ odd (prec binary64) s t 0 (low binary64)
unfolding of_fields
at_zero s t = refl

pick : (b c s : Bool) (w v : Float) → cond b (cond c (inf s) nan) w ≡ v → T (finite v) → w ≡ v
pick true true s w v e f = absurd (rw (← e) at f)
pick true false s w v e f = absurd (rw (← e) at f)
pick false c s w v e f = e

at_suc : (s : Bool) (k t : ℕ) (v : Float) → of_fields binary64 s (suc k) t ≡ v → T (finite v) → odd (prec binary64) s (hid binary64 + t) k (low binary64) ≡ v
unfolding of_fields
at_suc s k t v e f = pick (eqb (suc k) (ones binary64)) (eqb t 0) s (odd (prec binary64) s (hid binary64 + t) k (low binary64)) v e f

value-low : (v : Float) → T (fits binary64 v) → exp_field v ≡ 0 → Equals v (digit_field v) (2 ^ low binary64)
value-low v f z =
    let r = read_back v f in
    let t = digit_field v in
    let e : odd (prec binary64) r.0 t 0 (low binary64) ≡ v = sym (at_zero r.0 t) ∙ rw z at r.1 in
    rw (e, mul-one t) at (odd_val (prec binary64) r.0 t 0 (low binary64))

value-high : (v : Float) → T (fits binary64 v) → T (finite v) → (k : ℕ) → exp_field v ≡ suc k
    → Equals v ((hid binary64 + digit_field v) * 2 ^ k) (2 ^ low binary64)
value-high v f h k z =
    let r = read_back v f in
    let t = digit_field v in
    let e : odd (prec binary64) r.0 (hid binary64 + t) k (low binary64) ≡ v =
    at_suc r.0 k t v (rw z at r.1) h in
    rw e at (odd_val (prec binary64) r.0 (hid binary64 + t) k (low binary64))

-- ---- a size n / 2 ^ l below 2 ^ 53
pow_lt_back : (i p : ℕ) → 2 ^ i < 2 ^ p → i < p
pow_lt_back i p h = lt_of_not-le (λ (g : p ≤ i). lt_irrefl (2 ^ i) (lt_of_lt_of_le h (pow_mono g)))

size_under : (v : Float) (n l : ℕ) → SizeBelow v → Equals v n (2 ^ l) → n < 2 ^ (53 + l)
size_under nan n l h e = absurd h
size_under (inf s) n l h e = absurd h
size_under (fin s m x) n l h e =
    lt_of_mul-lt-mul_right (down x)
    (rw (← e, pow-add 2 53 l, mul_right_comm (2 ^ 53) (2 ^ l) (down x)) (mul-lt-mul_of_pos_right h (pow_pos l)))

small_exp : (d k l : ℕ) → 2 ^ 52 ≤ d → d * 2 ^ k < 2 ^ (53 + l) → 52 + k < 53 + l
small_exp d k l h g = pow_lt_back (52 + k) (53 + l) (lt_of_le_of_lt (rw (pow-add 2 52 k) (mul-le-mul_right (2 ^ k) h)) g)

-- n * 2 ^ k / 2 ^ (s + k) is n / 2 ^ s
shorten : (v : Float) (n k s l : ℕ) → s + k ≡ l → Equals v (n * 2 ^ k) (2 ^ l) → Equals v n (2 ^ s)
shorten nan n k s l p e = e
shorten (inf t) n k s l p e = e
shorten (fin t m x) n k s l p e =
    eq_of_mul-eq-mul_right (2 ^ k) (pow_pos k) (m * up x * 2 ^ s) (n * down x)
    (rw (mul_assoc (m * up x) (2 ^ s) (2 ^ k), ← pow-add 2 s k, p, mul_right_comm n (down x) (2 ^ k)) e)

pred_is : (x : ℕ) → (x ≡ 0 → ⊥) → x ≡ suc (x - 1)
pred_is x h = omega arith

shift_is : (k x : ℕ) → 52 + k < 53 + 1074 → x ≡ suc k → 1075 - x + k ≡ 1074
shift_is k x h e = omega arith

shift_le : (x : ℕ) → (x ≡ 0 → ⊥) → 1075 - x ≤ 1074
shift_le x h = omega arith

few-low : (t : ℕ) → t < 2 ^ 52 → t < 2 ^ 53
few-low t h = omega arith

few-high : (t : ℕ) → t < 2 ^ 52 → 2 ^ 52 + t < 2 ^ 53
few-high t h = omega arith

module _ (v : Float) (f : T (fits binary64 v)) (w : SizeBelow v) where
  rest_lt : digit_field v < 2 ^ 52
  rest_lt = mod-lt (to_bits binary64 v) (pow_pos 52)

  pub scaled_low : exp_field v ≡ 0 → ScaledOf v (digit_field v) 1074
  scaled_low z = record { few = few-low (digit_field v) rest_lt; low = le_of_eq refl; value = value-low v f z }

  module _ (n : exp_field v ≡ 0 → ⊥) where
    high : Equals v ((2 ^ 52 + digit_field v) * 2 ^ (exp_field v - 1)) (2 ^ 1074)
    high = value-high v f (within-finite v w) (exp_field v - 1) (pred_is (exp_field v) n)

    exp_lt : 52 + (exp_field v - 1) < 53 + 1074
    exp_lt =
        small_exp (2 ^ 52 + digit_field v) (exp_field v - 1) 1074 (le-add_right (2 ^ 52) (digit_field v))
        (size_under v ((2 ^ 52 + digit_field v) * 2 ^ (exp_field v - 1)) 1074 w high)

    pub exp_room : exp_field v ≤ 1075
    exp_room = omega (arith, exp_lt)

    pub scaled_high : ScaledOf v (2 ^ 52 + digit_field v) (1075 - exp_field v)
    scaled_high = record {
      few = few-high (digit_field v) rest_lt;
      low = shift_le (exp_field v) n;
      value =
          shorten v (2 ^ 52 + digit_field v) (exp_field v - 1) (1075 - exp_field v) 1074
          (shift_is (exp_field v - 1) (exp_field v) exp_lt (pred_is (exp_field v) n)) high;
    }
