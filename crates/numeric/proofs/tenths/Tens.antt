-- Ten times a fraction to the nearest whole number: from a shift of 58 on it is 0, and every fraction of the size has the same answer.
use mathlib.Core.Path.{◌≡◌, sym, ap, ◌∙◌}
use mathlib.Core.Bool.{true, false}
use Prim.Native.Nat.{ℕ, ◌+◌, ◌*◌, ◌%◌, ◌^◌, ◌≤◌, ◌<◌}
use native.Mathlib.Nat.{mul-one, mul_assoc}
use native.Mathlib.Nat.{div-eq_of_lt, mod-eq_of_lt}
use native.Mathlib.Omega.{arith}
use lib.IntN.{ℤ, pos, neg_ℤ}
use lib.Dec.{ltb}
use lib.Pow.{pow_pos, pow_mono}
use lib.Ieee.{Float, nan, inf, fin, up, down, lt}
use lib.Ieee.Fits.{down_pos}
use lib.Ieee.Nearest.{closest, closest_same}
use borrow.Author.Tests.{ltb-true, ltb-false}
use Rattle.numeric.specs.Tenths.{tenths_of}
use Rattle.numeric.specs.passes.Tenths.{ScaledOf}
use Rattle.numeric.proofs.Closest.{closest_down}
use Rattle.numeric.proofs.tenths.Size.{SizeBelow}

-- ---- the code's numbers, of digits d below 2 ^ 53 and a shift s
module _ (d s : ℕ) (h : d < 2 ^ 53) where
  ten_lt : 10 * d < 2 ^ 57
  ten_lt = omega arith

  -- from a shift of 58 on, ten times the digits is less than half of 2 ^ s
  pub nothing_left : 57 < s → closest (10 * d) (2 ^ s) ≡ 0
  nothing_left g =
      let u : 2 ^ 58 ≤ 2 ^ s = pow_mono g in
      let t : 10 * d < 2 ^ s = omega (arith, ten_lt) in
      let r : 10 * d % 2 ^ s ≡ 10 * d = mod-eq_of_lt t in
      closest_down (10 * d) (2 ^ s) (omega (arith, ten_lt)) ∙ div-eq_of_lt t

-- ---- from the size to the answer
same_size : (m : ℕ) (e : ℤ) (D s : ℕ) → m * up e * 2 ^ s ≡ D * down e → closest (10 * D) (2 ^ s) ≡ closest (10 * (m * up e)) (down e)
same_size m e D s v =
    closest_same (10 * D) (2 ^ s) (10 * (m * up e)) (down e) (pow_pos s) (down_pos e) (rw (mul_assoc 10 D (down e), mul_assoc 10 (m * up e) (2 ^ s), v))

sum_zero : (a b : ℕ) → ltb 0 (a + b) ≡ false → a ≡ 0
sum_zero a b h = omega (arith, ltb-false 0 (a + b) h)

closest_zero : (b : ℕ) → 0 < b → closest 0 b ≡ 0
closest_zero b h =
    let r : 0 % b ≡ 0 = mod-eq_of_lt h in
    closest_down 0 b (omega arith) ∙ div-eq_of_lt h

module _ (D s : ℕ) where
  pub from_zero : (v : Float) → SizeBelow v → ScaledOf v D s → lt v (fin false 0 (pos 0)) ≡ false → pos (closest (10 * D) (2 ^ s)) ≡ tenths_of v
  unfolding lt tenths_of
  from_zero nan w r h = absurd w
  from_zero (inf t) w r h = absurd w
  from_zero (fin false m e) w r h = ap pos (same_size m e D s r.value)
  from_zero (fin true m e) w r h =
      let z : m * up e ≡ 0 = sym (mul-one (m * up e)) ∙ sum_zero (m * up e * 1) (0 * 1 * down e) h in
      rw (same_size m e D s r.value, z, closest_zero (down e) (down_pos e))

  pub below_zero : (v : Float) → SizeBelow v → ScaledOf v D s → lt v (fin false 0 (pos 0)) ≡ true → neg_ℤ (pos (closest (10 * D) (2 ^ s))) ≡ tenths_of v
  unfolding lt tenths_of
  below_zero nan w r h = absurd w
  below_zero (inf t) w r h = absurd w
  below_zero (fin true m e) w r h = rw (same_size m e D s r.value)
  below_zero (fin false m e) w r h = absurd (omega (arith, ltb-true (m * up e * 1) (0 * 1 * down e) h))
