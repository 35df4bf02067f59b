-- What fitting the format says of a value's digits and exponent, and when a value is zero.
use mathlib.Core.Path.{◌≡◌, refl, sym, ◌∙◌}
use mathlib.Core.Logic.{inl, inr}
use mathlib.Core.Bool.{true, false, not, ◌&&◌, ◌||◌}
use Prim.Native.Nat.{ℕ, zero, suc, ◌*◌, ◌^◌, ◌≤◌, ◌<◌}
use native.Mathlib.Nat.{mul-one, one-mul, pow-succ', le_of_lt, le_of_eq, eq-or-lt_of_le}
use native.Mathlib.Omega.{arith}
use lib.IntN.{ℤ, pos, negsuc}
use lib.Dec.{T, ltb, eqb, ltb→lt, lt→ltb, eqb→eq}
use lib.Pow.{pow_pos}
use lib.Ieee.{Float, nan, inf, fin, binary64, up, down, fits, is_nan, le}
use lib.Ieee.Fits.{and_l, and_i, eq→eqb}
use lib.Ieee.Scale.{finite}
use mir.Facts.{or_yes}
use Rattle.numeric.proofs.Tests.{or_l, or_r}

-- a finite value of the format
pub record Number (x : Float) : Type 0 where
  pub is_finite : T (finite x)
  pub is_held : T (fits binary64 x)

pub not_zero : (a : ℕ) → 0 < a → a ≡ 0 → ⊥
not_zero a h e = omega arith

two_up : (p : ℕ) → 0 < p → 2 * p ≡ 1 → ⊥
two_up p h e = omega arith

-- a zero is written with the exponent 0
pub flat : (e : ℤ) → up e * down e ≡ 1 → e ≡ pos 0
flat (pos zero) h = refl
flat (pos (suc k)) h = absurd (two_up (2 ^ k) (pow_pos k) (sym (pow-succ' 2 k) ∙ sym (mul-one (2 ^ suc k)) ∙ h))
flat (negsuc k) h = absurd (two_up (2 ^ k) (pow_pos k) (sym (pow-succ' 2 k) ∙ sym (one-mul (2 ^ suc k)) ∙ h))

-- a ≤ b, as the comparison of two values with the sign + tests it
pub at_most : (a b : ℕ) → T (ltb a b || (eqb a b && true)) → a ≤ b
at_most a b t = elim (or_yes (ltb a b) (eqb a b && true) t) [ inl x ↦ le_of_lt (ltb→lt a b x) | inr x ↦ le_of_eq (eqb→eq a b (and_l (eqb a b) true x)) ]

pub of_at_most : (a b : ℕ) → a ≤ b → T (ltb a b || (eqb a b && true))
of_at_most a b h =
    elim (eq-or-lt_of_le h) [
      | inl p ↦ or_r (ltb a b) (eqb a b && true) (and_i (eqb a b) true (eq→eqb p) tt)
      | inr q ↦ or_l (ltb a b) (eqb a b && true) (lt→ltb a b q)
    ]

-- and of a size a / c with a whole number b, as the comparison with the value b tests it
pub below-whole : (a b c : ℕ) → T (ltb (a * 1) (1 * b * c)) → a < b * c
below-whole a b c t = omega (arith, ltb→lt (a * 1) (1 * b * c) t)

-- what lies between two finite values is finite
pub finite-between : (lo x hi : Float) → T (finite lo) → T (finite hi) → T (le lo x) → T (le x hi) → T (finite x)
unfolding le
finite-between lo nan hi p q h k = absurd k
finite-between lo (inf true) hi p q h k = absurd (above_all lo p h)
  where
    above_all : (lo : Float) → T (finite lo) → T (le lo (inf true)) → ⊥
    above_all nan p h = p
    above_all (inf r) p h = p
    above_all (fin r m e) p h = h
finite-between lo (inf false) hi p q h k = absurd (below_all hi q k)
  where
    below_all : (hi : Float) → T (finite hi) → T (le (inf false) hi) → ⊥
    below_all nan p h = p
    below_all (inf r) p h = p
    below_all (fin r m e) p h = h
finite-between lo (fin s m e) hi p q h k = tt

-- a number is no NaN
no_nan : (x : Float) → T (finite x) → T (not (is_nan x))
unfolding is_nan
no_nan nan h = absurd h
no_nan (inf s) h = absurd h
no_nan (fin s m e) h = tt

pub number_no_nan : {x : Float} → Number x → T (not (is_nan x))
number_no_nan {x} p = no_nan x p.is_finite
