-- The kit's `closest a b` by its three cases: twice the rest of a / b is less than b, equal to it, or more. So it is the whole number nearest to a / b, an even
-- one at a half, and no other is: of two that are at most a half away each, one is the other's neighbour, both are just a half away, and both would be even.
use mathlib.Core.Path.{◌≡◌, refl}
use mathlib.Core.Logic.{inl, inr}
use mathlib.Core.Bool.{true, false, true≢false, false≢true}
use Prim.Native.Nat.{ℕ, zero, suc, ◌+◌, ◌-◌, ◌*◌, ◌/◌, ◌%◌, ◌≤◌, ◌<◌, compare, Ordering}
use native.Mathlib.Nat.{le_of_lt, eq-or-lt_of_le, zero-mul, one-mul, suc-mul, add-mul, mod-lt, mul-le-mul_right, eq_of_mul-eq-mul_right, div-add-mod'}
use native.Mathlib.Omega.{arith}
use lib.Dec.{is_le, compare_is_eq}
use lib.Ieee.{nearest}
use lib.Ieee.Nearest.{closest}
use borrow.Author.Tests.{le-leb, lt-leb, eq-eqb, ne_eqb}
use Rattle.numeric.proofs.Tests.{le_or_lt}

-- ---- the three cases

module _ (w : ℕ) where
  less : (o : Ordering) → is_le o ≡ true → compare_is_eq o ≡ false → nearest w o ≡ w
  less Ordering.lt p q = refl
  less Ordering.eq p q = absurd (true≢false q)
  less Ordering.gt p q = absurd (false≢true p)

  same : (o : Ordering) → compare_is_eq o ≡ true → nearest w o ≡ w + w % 2
  same Ordering.lt p = absurd (false≢true p)
  same Ordering.eq p = refl
  same Ordering.gt p = absurd (false≢true p)

  more : (o : Ordering) → is_le o ≡ false → nearest w o ≡ suc w
  more Ordering.lt p = absurd (true≢false p)
  more Ordering.eq p = absurd (true≢false p)
  more Ordering.gt p = refl

module _ (a b : ℕ) where
  pub closest_down : a % b * 2 < b → closest a b ≡ a / b
  closest_down h =
      less (a / b) (compare (a % b * 2) b) (le-leb (a % b * 2) b (le_of_lt h)) (ne_eqb (a % b * 2) b (λ e. omega arith))

  pub closest_half : a % b * 2 ≡ b → closest a b ≡ a / b + a / b % 2
  closest_half h = same (a / b) (compare (a % b * 2) b) (eq-eqb (a % b * 2) b h)

  pub closest_up : b < a % b * 2 → closest a b ≡ suc (a / b)
  closest_up h = more (a / b) (compare (a % b * 2) b) (lt-leb (a % b * 2) b h)

-- ---- the nearest: how far a / b is from q, in parts of size 1 / b

abbrev pub apart : ℕ → ℕ → ℕ
apart a c = (a - c) + (c - a)

pub record NearestTo (a b q : ℕ) : Type 0 where
  pub within : 2 * apart a (q * b) ≤ b
  pub even : 2 * apart a (q * b) ≡ b → q % 2 ≡ 0

-- at a tie the number below and the one above are as far away
tie : (a b w r t : ℕ) → t < 2 → w * b + r ≡ a → r * 2 ≡ b → 2 * apart a ((w + t) * b) ≤ b
tie a b w r zero h p e =
    let z : (w + 0) * b ≡ w * b + 0 * b = add-mul w 0 b in
    omega (arith, zero-mul b)
tie a b w r (suc zero) h p e =
    let z : (w + 1) * b ≡ w * b + 1 * b = add-mul w 1 b in
    omega (arith, one-mul b)
tie a b w r (suc (suc t)) h p e = absurd (omega arith)

module _ (a b : ℕ) (B : 0 < b) where
  parts : a / b * b + a % b ≡ a
  parts = div-add-mod' a b

  next : suc (a / b) * b ≡ a / b * b + b
  next = suc-mul (a / b) b

  pub closest_nearest : NearestTo a b (closest a b)
  closest_nearest =
      elim (le_or_lt (a % b * 2) b) [
        | inr h ↦
            rw (closest_up a b h)
            record { within = omega (arith, parts, next, mod-lt a B); even = λ e. absurd (omega (arith, parts, next, mod-lt a B)) }
        | inl h ↦
            elim (eq-or-lt_of_le h) [
              | inr l ↦ rw (closest_down a b l) record { within = omega (arith, parts); even = λ e. absurd (omega (arith, parts)) }
              | inl e ↦
                  rw (closest_half a b e)
                  record { within = tie a b (a / b) (a % b) (a / b % 2) (mod-lt (a / b) (omega arith)) parts e; even = λ z. omega arith }
            ]
      ]

  not_before : (p q : ℕ) → NearestTo a b p → NearestTo a b q → p < q → ⊥
  not_before p q x y h =
      let step : suc p * b ≤ q * b = mul-le-mul_right b h in
      let wide : suc p * b ≡ p * b + b = suc-mul p b in
      let here : 2 * apart a (p * b) ≡ b = omega (arith, x.within, y.within) in
      let there : 2 * apart a (q * b) ≡ b = omega (arith, x.within, y.within) in
      let meet : suc p * b ≡ q * b = omega (arith, x.within, y.within) in
      omega (arith, eq_of_mul-eq-mul_right b B (suc p) q meet, x.even here, y.even there)

  pub nearest_only : (p q : ℕ) → NearestTo a b p → NearestTo a b q → p ≡ q
  nearest_only p q x y = elim (le_or_lt p q) [
    | inr h ↦ absurd (not_before q p y x h)
    | inl h ↦ elim (eq-or-lt_of_le h) [ inl e ↦ e | inr l ↦ absurd (not_before p q x y l) ]
  ]
