-- Ten times x lies half_way between two whole numbers exactly where x is an odd multiple of 1/4: twenty times x is then odd, and as x is a whole number over
-- a power of two, 5 divides that odd number.
use mathlib.Core.Path.{◌≡◌, ◌∙◌}
use mathlib.Core.Logic.{inl, inr}
use Prim.Native.Nat.{ℕ, zero, suc, ◌+◌, ◌-◌, ◌*◌, ◌^◌, ◌≤◌, ◌<◌}
use native.Mathlib.Nat.{mul-one, mul_comm, mul_assoc, add-mul, zero-mul, one-mul, suc-mul, mul-le-mul_right, pow-succ'}
use native.Mathlib.Omega.{arith}
use lib.Dec.{T}
use lib.IntN.{ℤ, pos, negsuc}
use lib.Ieee.{Float, nan, inf, fin, up, down}
use lib.Ieee.Digits.{Equals}
use lib.Ieee.Fits.{down_pos}
use lib.Ieee.Nearest.{closest}
use lib.Ieee.Positive.{den}
use lib.Ieee.Scale.{finite}
use Rattle.numeric.specs.Tenths.{tenths_of, off_tenfold}
use Rattle.numeric.proofs.Tests.{le_or_lt}
use Rattle.numeric.proofs.Closest.{apart, NearestTo, closest_nearest}
use Rattle.numeric.proofs.tenths.Nearest.{off_tenths}

-- ---- a fraction a / b that is half_way between whole numbers: an odd number of halves

odd_times : (k b : ℕ) → (2 * k + 1) * b ≡ 2 * (k * b) + b
odd_times k b = rw (add-mul (2 * k) 1 b, mul_assoc 2 k b, one-mul b)

odd_halves : (a b q : ℕ) → 0 < b → 2 * apart a (q * b) ≡ b → (k : ℕ) × (2 * a ≡ (2 * k + 1) * b)
odd_halves a b q B e = elim (le_or_lt (q * b) a) [ inl h ↦ (q, omega (arith, odd_times q b)) | inr h ↦ above q h e ]
  where
    above : (q : ℕ) → a < q * b → 2 * apart a (q * b) ≡ b → (k : ℕ) × (2 * a ≡ (2 * k + 1) * b)
    above zero h e = absurd (omega (arith, zero-mul b))
    above (suc p) h e = (p, omega (arith, suc-mul p b, odd_times p b))

half_way : (a b k q : ℕ) → NearestTo a b q → 2 * a ≡ (2 * k + 1) * b → 2 * apart a (q * b) ≡ b
half_way a b k q h e =
    elim (le_or_lt q k) [
      | inl l ↦
          let u : q * b ≤ k * b = mul-le-mul_right b l in
          omega (arith, h.within, odd_times k b)
      | inr l ↦
          let u : suc k * b ≤ q * b = mul-le-mul_right b l in
          omega (arith, h.within, suc-mul k b, odd_times k b)
    ]

-- ---- over a power of two, 5 divides the odd number

five : (k j z : ℕ) → 20 * z ≡ j * 2 ^ k → (i : ℕ) × (j ≡ 5 * i)
five zero j z e = (4 * z, omega (arith, mul-one j))
five (suc k) j z e =
    let double : j * 2 ^ suc k ≡ 2 * j * 2 ^ k = rw (pow-succ' 2 k, ← mul_assoc j 2 (2 ^ k), mul_comm j 2) in
    let twice = five k (2 * j) z (e ∙ double) in
    (3 * twice.0 - j, omega (arith, twice.1))

five_below : (e : ℤ) (j z : ℕ) → 20 * z ≡ j * down e → (i : ℕ) × (j ≡ 5 * i)
five_below (pos k) = five 0
five_below (negsuc k) = five (suc k)

-- and the fifth of it is odd
fifth : (b z k i : ℕ) → 2 * k + 1 ≡ 5 * i → 20 * z ≡ (2 * k + 1) * b → z * 4 ≡ (2 * (k - 2 * i) + 1) * b
fifth b z k i f e =
    let odd : 2 * (k - 2 * i) + 1 ≡ i = omega arith in
    let times : (2 * k + 1) * b ≡ 5 * (i * b) = rw (f, mul_assoc 5 i b) in
    rw odd (omega arith)

-- ---- of a finite x

-- where |10 x − t| is 1/2, the size of x is an odd multiple of 1/4
pub half_quarters : (x : Float) → T (finite x) → 2 * off_tenfold x (tenths_of x) ≡ den x → (k : ℕ) × Equals x (2 * k + 1) 4
half_quarters nan f h = absurd f
half_quarters (inf s) f h = absurd f
half_quarters (fin s m e) f h =
    let z = m * up e in
    let odd = odd_halves (10 * z) (down e) (closest (10 * z) (down e)) (down_pos e) (rw (off_tenths s m e) at h) in
    let twenty : 20 * z ≡ (2 * odd.0 + 1) * down e = omega (arith, odd.1) in
    let i = five_below e (2 * odd.0 + 1) z twenty in
    (odd.0 - 2 * i.0, fifth (down e) z odd.0 i.0 i.1 twenty)

-- and where it is that, |10 x − t| is 1/2
pub quarters_half : (x : Float) (k : ℕ) → Equals x (2 * k + 1) 4 → 2 * off_tenfold x (tenths_of x) ≡ den x
quarters_half nan k h = absurd h
quarters_half (inf s) k h = absurd h
quarters_half (fin s m e) k h =
    let z = m * up e in
    rw (off_tenths s m e)
    (half_way (10 * z) (down e) (5 * k + 2) (closest (10 * z) (down e)) (closest_nearest (10 * z) (down e) (down_pos e))
    (omega (arith, h, odd_times k (down e), odd_times (5 * k + 2) (down e), add-mul (5 * k) 2 (down e), mul_assoc 5 k (down e))))
