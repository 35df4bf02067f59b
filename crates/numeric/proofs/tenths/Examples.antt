-- Tenths that are computed: the halves of request 4/12, and two values that a rounded product with ten would put on a half.
use mathlib.Core.Path.{◌≡◌, refl}
use mathlib.Core.List.{[], ◌∷◌, map}
use Prim.Native.Nat.{ℕ}
use lib.IntN.{ℤ, pos, negsuc}
use lib.Ieee.{binary64, of_bits}
use Rattle.numeric.specs.Tenths.{tenths_of}

abbrev shown : ℕ → ℤ
shown b = tenths_of (of_bits binary64 b)

-- 0.25, 0.75, 1.25, −0.25 and −0.75
halves : map shown (0x3fd0_0000_0000_0000 ∷ 0x3fe8_0000_0000_0000 ∷ 0x3ff4_0000_0000_0000 ∷ 0xbfd0_0000_0000_0000 ∷ 0xbfe8_0000_0000_0000 ∷ [])
    ≡ pos 2 ∷ pos 8 ∷ pos 12 ∷ negsuc 1 ∷ negsuc 7 ∷ []
unfolding tenths_of of_bits
halves = refl

-- the f64s next to 0.25, below and above
beside_a_half : map shown (0x3fcf_ffff_ffff_ffff ∷ 0x3fd0_0000_0000_0001 ∷ []) ≡ pos 2 ∷ pos 3 ∷ []
unfolding tenths_of of_bits
beside_a_half = refl

-- 0.05 lies above the decimal fraction and 0.15 below it; times ten they would round to 0.5 and 1.5
not_halves : map shown (0x3fa9_9999_9999_999a ∷ 0x3fc3_3333_3333_3333 ∷ []) ≡ pos 1 ∷ pos 1 ∷ []
unfolding tenths_of of_bits
not_halves = refl

-- 0.06 has a size below 2 ^ -4, and shows 1; 2 ^ -5, −0.0 and the smallest f64 below zero show 0
small : map shown (0x3fae_b851_eb85_1eb8 ∷ 0x3fa0_0000_0000_0000 ∷ 0x8000_0000_0000_0000 ∷ 0x8000_0000_0000_0001 ∷ []) ≡ pos 1 ∷ pos 0 ∷ pos 0 ∷ pos 0 ∷ []
unfolding tenths_of of_bits
small = refl
