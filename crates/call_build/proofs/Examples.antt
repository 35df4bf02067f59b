-- Worked examples, computed by antt: the nearest ratio of quotients on which ties or rounding decide, and a chart built of five raw objects.
use mathlib.Core.Path.{◌≡◌, refl}
use mathlib.Core.List.{List, [], ◌∷◌, map}
use Prim.Native.Nat.{ℕ}
use lib.Ieee.{Float, binary64, round, of_bits, to_bits, sub, div, lt}
use Rattle.lent.specs.Scan.{tabulate}
use Rattle.numeric.specs.Near.{abs_of, is_nearer}
use Rattle.call_build.specs.Ratio.{quotient, nearer_of, nearest_of, nearest_ratio}
use Rattle.call_build.specs.Build.{Raw, start_at, delta_at, ratio_at, built_chart}

abbrev floats : List ℕ → List Float
floats bits = map (of_bits binary64) bits

abbrev bits_of : List Float → List ℕ
bits_of xs = map (to_bits binary64) xs

-- 1.75, 2.5, 1.375 and 1.125 lie as near to two ratios: 2, 2, 1.5 and 1 come first in the list
shown_ties : bits_of (map nearest_ratio (floats (0x3ffc_0000_0000_0000 ∷ 0x4004_0000_0000_0000 ∷ 0x3ff6_0000_0000_0000 ∷ 0x3ff2_0000_0000_0000 ∷ [])))
    ≡ 0x4000_0000_0000_0000 ∷ 0x4000_0000_0000_0000 ∷ 0x3ff8_0000_0000_0000 ∷ 0x3ff0_0000_0000_0000 ∷ []
unfolding nearest_ratio nearest_of nearer_of is_nearer abs_of quotient round of_bits to_bits sub lt
shown_ties = refl

-- 2^54 + 4, 2^56, −2^51, −2^53 and −(2^53 + 2), where the rounding of the differences decides: 2, 1, 0.5, 1 and 0.5
shown_huge : bits_of
    (map nearest_ratio
    (floats (0x4350_0000_0000_0001 ∷ 0x4370_0000_0000_0000 ∷ 0xc320_0000_0000_0000 ∷ 0xc340_0000_0000_0000 ∷ 0xc340_0000_0000_0001 ∷ [])))
    ≡ 0x4000_0000_0000_0000 ∷ 0x3ff0_0000_0000_0000 ∷ 0x3fe0_0000_0000_0000 ∷ 0x3ff0_0000_0000_0000 ∷ 0x3fe0_0000_0000_0000 ∷ []
unfolding nearest_ratio nearest_of nearer_of is_nearer abs_of quotient round of_bits to_bits sub lt
shown_huge = refl

-- a NaN, +∞ and −∞: 1
shown_none_nearer : bits_of (map nearest_ratio (floats (0x7ff8_0000_0000_0000 ∷ 0x7ff0_0000_0000_0000 ∷ 0xfff0_0000_0000_0000 ∷ [])))
    ≡ 0x3ff0_0000_0000_0000 ∷ 0x3ff0_0000_0000_0000 ∷ 0x3ff0_0000_0000_0000 ∷ []
unfolding nearest_ratio nearest_of nearer_of is_nearer abs_of quotient round of_bits to_bits sub lt
shown_none_nearer = refl

-- ---- five raw objects at rate 2.0: times NaN, 0, 100, 200 and 350, of which the first is not read, nor are the first two kinds
five : Raw
five = record {
  kinds = 9 ∷ 9 ∷ 0 ∷ 2 ∷ 1 ∷ [];
  times = floats
      (0x7ff8_0000_0000_0000 ∷ 0x0000_0000_0000_0000 ∷ 0x4059_0000_0000_0000 ∷ 0x4069_0000_0000_0000 ∷ 0x4075_e000_0000_0000 ∷ []);
}

rate : Float
unfolding of_bits
rate = of_bits binary64 0x4000_0000_0000_0000

shown_kinds : (built_chart rate five).kinds ≡ 0 ∷ 2 ∷ 1 ∷ []
unfolding built_chart five
shown_kinds = refl

-- 50, 100, 175
shown_starts : bits_of (built_chart rate five).starts ≡ 0x4049_0000_0000_0000 ∷ 0x4059_0000_0000_0000 ∷ 0x4065_e000_0000_0000 ∷ []
unfolding built_chart five rate tabulate start_at div round of_bits to_bits
shown_starts = refl

-- 50, 50, 75
shown_deltas : bits_of (built_chart rate five).deltas ≡ 0x4049_0000_0000_0000 ∷ 0x4049_0000_0000_0000 ∷ 0x4052_c000_0000_0000 ∷ []
unfolding built_chart five rate tabulate delta_at sub div round of_bits to_bits
shown_deltas = refl

-- 1, and 1 and 1.5 by the object before, though one is a NonHit
shown_ratios : bits_of (built_chart rate five).ratios ≡ 0x3ff0_0000_0000_0000 ∷ 0x3ff0_0000_0000_0000 ∷ 0x3ff8_0000_0000_0000 ∷ []
unfolding built_chart five rate tabulate delta_at ratio_at nearest_ratio nearest_of nearer_of is_nearer abs_of quotient sub div lt round of_bits to_bits
shown_ratios = refl
