-- Tenths are the whole number nearest to ten times x, and no other is. From zero up these are the laws of `closest`; below zero all is turned round.
use mathlib.Core.Path.{◌≡◌, refl, sym, ap, ◌∙◌}
use mathlib.Core.Bool.{Bool, true, false, not, cond}
use Prim.Native.Nat.{ℕ, zero, suc, ◌-◌, ◌*◌, ◌≤◌, ◌<◌}
use native.Mathlib.Nat.{zero-mul, suc-mul}
use native.Mathlib.Omega.{arith}
use lib.Dec.{T, ltb}
use lib.IntN.{ℤ, pos, negsuc, neg_ℤ, nat_abs, ◌-ℤ◌, ◌*ℤ◌, neg_ℤ-neg_ℤ, neg_ℤ-+ℤ}
use lib.Ieee.{Float, nan, inf, fin, up, down, neg}
use lib.Ieee.Fits.{down_pos}
use lib.Ieee.Nearest.{closest}
use lib.Ieee.Scale.{finite}
use borrow.Author.Tests.{ltb-true, ltb-false}
use Rattle.numeric.specs.Tenths.{with_sign, tenths_of, off_tenfold, NearestTenths}
use Rattle.numeric.proofs.Closest.{apart, NearestTo, closest_nearest, nearest_only}

-- ---- whole numbers with a sign

abs_difference : (a c : ℕ) → nat_abs (pos a -ℤ pos c) ≡ apart a c
abs_difference a zero = omega arith
abs_difference a (suc c) = go (ltb a (suc c)) (ltb-true a (suc c)) (ltb-false a (suc c))
  where
    go : (t : Bool) → (t ≡ true → a < suc c) → (t ≡ false → suc c ≤ a) → nat_abs (cond t (negsuc (suc c - suc a)) (pos (a - suc c))) ≡ apart a (suc c)
    go true h k = omega (arith, h refl)
    go false h k = omega (arith, k refl)

abs_neg : (z : ℤ) → nat_abs (neg_ℤ z) ≡ nat_abs z
abs_neg (pos zero) = refl
abs_neg (pos (suc n)) = refl
abs_neg (negsuc n) = refl

neg_times : (t : ℤ) (b : ℕ) → neg_ℤ t *ℤ pos b ≡ neg_ℤ (t *ℤ pos b)
neg_times (pos zero) b = rw (zero-mul b)
neg_times (pos (suc n)) b = refl
neg_times (negsuc n) b = sym (neg_ℤ-neg_ℤ (pos (suc n * b)))

neg_with : (s : Bool) (n : ℕ) → with_sign (not s) n ≡ neg_ℤ (with_sign s n)
neg_with false n = refl
neg_with true n = sym (neg_ℤ-neg_ℤ (pos n))

-- ---- minus x, and minus its tenths

pub off_neg : (x : Float) (t : ℤ) → off_tenfold (neg x) (neg_ℤ t) ≡ off_tenfold x t
unfolding neg
off_neg nan t = refl
off_neg (inf s) t = refl
off_neg (fin s m e) t =
    let ten = with_sign s (10 * (m * up e)) in
    let parts = t *ℤ pos (down e) in
    rw (neg_with s (10 * (m * up e)), neg_times t (down e), ← neg_ℤ-+ℤ ten (neg_ℤ parts)) (abs_neg (ten -ℤ parts))

pub tenths_neg : (x : Float) → tenths_of (neg x) ≡ neg_ℤ (tenths_of x)
unfolding tenths_of neg
tenths_neg nan = refl
tenths_neg (inf s) = refl
tenths_neg (fin s m e) = neg_with s (closest (10 * (m * up e)) (down e))

nearest_neg : (x : Float) (t : ℤ) → NearestTenths x t → NearestTenths (neg x) (neg_ℤ t)
unfolding neg
nearest_neg nan t h = absurd h.is_finite
nearest_neg (inf s) t h = absurd h.is_finite
nearest_neg (fin s m e) t h =
    let off : off_tenfold (fin (not s) m e) (neg_ℤ t) ≡ off_tenfold (fin s m e) t = off_neg (fin s m e) t in
    record { is_finite = tt; within = rw off h.within; even = rw (off, abs_neg t) h.even }

-- ---- from zero up: a whole number below zero is farther than a half away

module _ (m : ℕ) (e : ℤ) where
  nearest : NearestTo (10 * (m * up e)) (down e) (closest (10 * (m * up e)) (down e))
  nearest = closest_nearest (10 * (m * up e)) (down e) (down_pos e)

  up_nearest : NearestTenths (fin false m e) (pos (closest (10 * (m * up e)) (down e)))
  up_nearest =
      let off = abs_difference (10 * (m * up e)) (closest (10 * (m * up e)) (down e) * down e) in
      record { is_finite = tt; within = rw off nearest.within; even = rw off nearest.even }

  up_only : (t : ℤ) → NearestTenths (fin false m e) t → t ≡ pos (closest (10 * (m * up e)) (down e))
  up_only (pos q) h =
      let off = abs_difference (10 * (m * up e)) (q * down e) in
      ap pos
      (nearest_only (10 * (m * up e)) (down e) (down_pos e) q _ (record { within = rw off at h.within; even = rw off at h.even }) nearest)
  up_only (negsuc n) h =
      let parts = neg_ℤ-neg_ℤ (pos (suc n * down e)) in
      absurd (omega (arith, rw parts at h.within, suc-mul n (down e), down_pos e))

-- ---- of every finite x

pub tenths_nearest : (x : Float) → T (finite x) → NearestTenths x (tenths_of x)
unfolding tenths_of neg
tenths_nearest nan f = absurd f
tenths_nearest (inf s) f = absurd f
tenths_nearest (fin false m e) f = up_nearest m e
tenths_nearest (fin true m e) f = nearest_neg (fin false m e) _ (up_nearest m e)

pub tenths_only : (x : Float) (t : ℤ) → NearestTenths x t → t ≡ tenths_of x
unfolding tenths_of neg
tenths_only nan t h = absurd h.is_finite
tenths_only (inf s) t h = absurd h.is_finite
tenths_only (fin false m e) t h = up_only m e t h
tenths_only (fin true m e) t h = sym (neg_ℤ-neg_ℤ t) ∙ ap neg_ℤ (up_only m e (neg_ℤ t) (nearest_neg (fin true m e) t h))

-- how far ten times x is from its tenths
pub off_tenths : (s : Bool) (m : ℕ) (e : ℤ)
    → off_tenfold (fin s m e) (tenths_of (fin s m e)) ≡ apart (10 * (m * up e)) (closest (10 * (m * up e)) (down e) * down e)
unfolding tenths_of neg
off_tenths false m e = abs_difference (10 * (m * up e)) (closest (10 * (m * up e)) (down e) * down e)
off_tenths true m e =
    off_neg (fin false m e) (pos (closest (10 * (m * up e)) (down e))) ∙ abs_difference (10 * (m * up e)) (closest (10 * (m * up e)) (down e) * down e)
