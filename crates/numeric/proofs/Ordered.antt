-- The order of numbers: it is total and transitive, and a number is at most its sum with one that is not negative.
-- All go by units of the smallest value, where the order is that of naturals.
use mathlib.Core.Path.{sym}
use mathlib.Core.Logic.{◌⊎◌, inl, inr}
use mathlib.Core.Bool.{true, false}
use Prim.Native.Nat.{◌+◌, ◌^◌}
use native.Mathlib.Nat.{zero-add, zero-mul}
use native.Mathlib.Omega.{arith}
use lib.IntN.{pos}
use lib.Dec.{T}
use lib.Ieee.{Float, nan, inf, fin, binary64, low, fits, le, lt, add}
use lib.Ieee.Scale.{finite}
use Rattle.numeric.specs.Constants.{zero64}
use Rattle.numeric.proofs.Values.{Number}
use Rattle.numeric.proofs.Tests.{le_or_lt as one_or_other}
use Rattle.numeric.proofs.order.Rank.{ex}
use Rattle.numeric.proofs.Units.{above, under, units_of, le_to_units, le_of_units, lt_to_units, lt_of_units}
use Rattle.numeric.proofs.MinusZero.{kept}
use Rattle.numeric.proofs.Monotone.{Rounded, rounded_mono, add_rounded}

module _ {x y : Float} (p : Number x) (q : Number y) where
  pub le_or_lt : T (le x y) ⊎ T (lt y x)
  le_or_lt = elim (one_or_other (above x + under y) (above y + under x)) [ inl h ↦ inl (le_of_units p q h) | inr h ↦ inr (lt_of_units q p h) ]

  pub lt_le : T (lt x y) → T (le x y)
  lt_le h = le_of_units p q (omega (arith, lt_to_units p q h))

pub le_self : {x : Float} → Number x → T (le x x)
le_self p = le_of_units p p (omega arith)

module _ {x y z : Float} (p : Number x) (q : Number y) (r : Number z) where
  pub le_trans : T (le x y) → T (le y z) → T (le x z)
  le_trans h k = le_of_units p r (omega (arith, le_to_units p q h, le_to_units q r k))

  pub le_lt_trans : T (le x y) → T (lt y z) → T (lt x z)
  le_lt_trans h k = lt_of_units p r (omega (arith, le_to_units p q h, lt_to_units q r k))

  pub lt_le_trans : T (lt x y) → T (le y z) → T (lt x z)
  lt_le_trans h k = lt_of_units p r (omega (arith, lt_to_units p q h, le_to_units q r k))

-- ---- the sum with a number that is not negative
own_units : (x : Float) → T (finite x) → T (fits binary64 x) → Rounded x (above x) (under x)
own_units nan p f = absurd p
own_units (inf s) p f = absurd p
own_units (fin false m e) p f = inl (units_of m e, sym (zero-add (units_of m e)), sym (kept false m e f))
own_units (fin true m e) p f = inr (units_of m e, sym (zero-add (units_of m e)), sym (kept true m e f))

zero_number : Number zero64
unfolding fits
zero_number = record { is_finite = tt; is_held = tt }

pub add_grows : {x y : Float} → Number x → Number y → T (le zero64 y) → T (le x (add binary64 x y))
add_grows {x} {y} p q h =
    let k = le_to_units zero_number q h in
    rounded_mono (above x) (under x) (above x + above y) (under x + under y) (own_units x p.is_finite p.is_held) (add_rounded p q)
    (omega (arith, k, zero-mul (2 ^ ex (low binary64) (pos 0))))
