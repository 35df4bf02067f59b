-- -0.0 added to a value changes no bit of it: in units of the smallest value the sum is exact, and a size is written in one way.
use mathlib.Core.Path.{◌≡◌, refl, ◌∙◌}
use mathlib.Core.Bool.{Bool, true, false}
use Prim.Native.Nat.{ℕ, suc, ◌+◌, ◌^◌, ◌<◌, zero-le}
use native.Mathlib.Nat.{add-zero, sub-zero, mul_comm, zero-mul, eq_of_mul-eq-mul_right}
use lib.IntN.{ℤ, pos}
use lib.Dec.{T}
use lib.Pow.{pow-add, pow_pos}
use lib.Ieee.{Float, nan, inf, fin, binary64, emax, low, fits, round, sum, add}
use lib.Ieee.Fits.{down_pos, round-fits}
use lib.Ieee.Exact.{HasValue, round_exact}
use borrow.Author.Tests.{le-ltb}
use Rattle.numeric.specs.Constants.{minus_zero64}
use Rattle.numeric.proofs.order.Rank.{ex, ex_val, in_format, size_inj}
use Rattle.numeric.proofs.Units.{L, units_of, sum_units}

module _ (s : Bool) (m : ℕ) (e : ℤ) (f : T (fits binary64 (fin s m e))) where
  -- a value that fits and has this size and sign
  only : (y : Float) → T (fits binary64 y) → HasValue y s (units_of m e) L → y ≡ fin s m e
  only nan g v = absurd v
  only (inf t) g v = absurd v
  only (fin t n d) g v =
      let k = in_format t n d g in
      let units = eq_of_mul-eq-mul_right _ (down_pos d) (units_of n d) (units_of m e) (ex_val (low binary64) n d k.low-enough ∙ v.1) in
      let same = size_inj n d m e k (in_format s m e f) units in
      λ i. fin (v.0 i) (same.0 i) (same.1 i)

  -- so its own size, rounded, is itself
  pub kept : round binary64 s (units_of m e) L ≡ fin s m e
  kept =
      let k = in_format s m e f in
      let below : units_of m e < 2 ^ (low binary64 + suc (emax binary64)) = rw (pow-add, mul_comm (2 ^ low binary64)) k.below_top in
      only (round binary64 s (units_of m e) L) (round-fits binary64 s (units_of m e) L)
      (round_exact binary64 s (units_of m e) L m (ex (low binary64) e) (pow_pos (low binary64)) k.short below refl)

pub add_minus_zero : (x : Float) → T (fits binary64 x) → add binary64 x minus_zero64 ≡ x
unfolding add fits sum
add_minus_zero nan f = refl
add_minus_zero (inf s) f = refl
add_minus_zero (fin true m e) f = sum_units true m e true 0 (pos 0) f tt ∙ rw (zero-mul, add-zero) (kept true m e f)
add_minus_zero (fin false m e) f = sum_units false m e true 0 (pos 0) f tt ∙ rw (zero-mul, sub-zero, le-ltb (units_of m e) 0 zero-le) (kept false m e f)
