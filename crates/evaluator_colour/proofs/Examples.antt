-- Worked examples, computed by antt: bits of sums and penalties, from the places and the ratios of single objects.
use mathlib.Core.Path.{◌≡◌, refl}
use mathlib.Core.Bool.{Bool, true, false}
use mathlib.Core.List.{List, [], ◌∷◌, map}
use Prim.Native.Nat.{ℕ}
use lib.IntN.{negsuc}
use lib.Ieee.{Float, fin, binary64, round, add, sub, mul, div, le, of_bits, to_bits}
use Rattle.numeric.specs.Constants.{half64, one64, two64, eight_tenths}
use Rattle.numeric.specs.Logistic.{table_bits, logistic_at}
use Rattle.numeric.specs.Near.{is_near}
use Rattle.evaluator_colour.specs.declared.Standing.{Standing}
use Rattle.evaluator_colour.specs.Formulas.{hit_value, alt_value, mono_value, add_if, object_sum}
use Rattle.evaluator_colour.specs.RatioPenalty.{lowered, ratio_penalty}

abbrev standing : ℕ → ℕ → ℕ → Bool → Bool → Bool → Standing
standing interval pattern_place streak_place streak pattern hit = record {
  interval = interval;
  pattern_place = pattern_place;
  streak_place = streak_place;
  streak = streak;
  pattern = pattern;
  hit = hit;
}

-- 0.01, the f64 nearest to 1 / 100
unfoldable hundredth : Float
hundredth = round binary64 false 1 100

-- ---- the scope's example d, whose idx is 0: by the definitions, and term by term
shown_d : to_bits binary64 (mul binary64 (object_sum (standing 17 0 0 true true true)) (ratio_penalty hundredth 0 one64 one64)) ≡ 0x4013ee42c8384268
unfolding object_sum hit_value alt_value mono_value add_if logistic_at table_bits ratio_penalty lowered hundredth is_near of_bits to_bits round add sub mul div
    le
shown_d = refl

-- T(0) × (T(0) × 2) × 0.5 and T(0) × 2 and 2, summed in this order
shown_d_terms : to_bits binary64
    (add binary64
    (add binary64 (mul binary64 (mul binary64 (logistic_at 0) (mul binary64 (logistic_at 0) two64)) half64) (mul binary64 (logistic_at 0) two64)) two64)
    ≡ 0x4013ee42c8384268
unfolding logistic_at table_bits of_bits to_bits add mul
shown_d_terms = refl

-- ---- sums: of a first object of all three, and of some. The fifth is another value where hit is added first, the last where alt is halved first
places : List Standing
places =
    standing 17 0 0 true true true ∷
    standing 1 0 0 true true true ∷
    standing 2 1 3 true true true ∷
    standing 3 2 1 true true true ∷
    standing 5 0 7 true true true ∷
    standing 15 4 200 true true true ∷
    standing 17 260 262 true true true ∷
    standing 4 263 264 true true true ∷
    standing 1 1 1 true true true ∷
    standing 9 8 7 true true true ∷
    standing 2 2 2 true true true ∷
    standing 17 263 263 true true true ∷
    standing 17 0 0 false false false ∷
    standing 17 0 0 true false false ∷
    standing 17 0 0 true true false ∷
    standing 17 0 0 false false true ∷
    standing 17 0 0 false true true ∷
    standing 2 1 3 true false true ∷
    standing 2 1 3 false true false ∷
    standing 1 1 263 true false false ∷ []

sums : List ℕ
sums =
    0x4013ee42c8384268 ∷ 0x3fd3bd89a9421118 ∷ 0x3fff795fd6e4a6c5 ∷ 0x400a08d02f5d4a6c ∷ 0x400febe5643f2e10 ∷ 0x400011c225387550 ∷
    0x4000000000000000 ∷ 0x3fffdc7bb58f155b ∷ 0x3fd2d7dc2133193e ∷ 0x4000000014b35d29 ∷ 0x3ffa000000000000 ∷ 0x4000000000000000 ∷
    0x0000000000000000 ∷ 0x3fefb91ed6a3e888 ∷ 0x4007dc85907084d0 ∷ 0x4000000000000000 ∷ 0x400fee3ddac78aae ∷ 0x3ff076ee03ddb5f7 ∷
    0x3fee04e3a60de19b ∷ 0x0000512b6e56a84a ∷ []

shown_sums : map (λ (o : Standing). to_bits binary64 (object_sum o)) places ≡ sums
unfolding places sums object_sum hit_value alt_value mono_value add_if logistic_at table_bits of_bits to_bits add sub mul
shown_sums = refl

-- ---- penalties
record Ratios : Type 0 where
  idx : ℕ
  c : ℕ
  p : ℕ

abbrev ratios : ℕ → ℕ → ℕ → Ratios
ratios idx c p = record { idx = idx; c = c; p = p }

abbrev one_bits : ℕ
one_bits = 0x3ff0000000000000

-- the f64 nearest to 0.99 and to 1.01 are further than 0.01 from 1.0, and their neighbours towards 1.0 are not
abbrev at99 : ℕ
at99 = 0x3fefae147ae147ae

abbrev just_above99 : ℕ
just_above99 = 0x3fefae147ae147af

abbrev just_below101 : ℕ
just_below101 = 0x3ff028f5c28f5c28

abbrev at101 : ℕ
at101 = 0x3ff028f5c28f5c29

-- 2 ^ -24 and 2 ^ 24
abbrev lowest_bits : ℕ
lowest_bits = 0x3e70000000000000

abbrev highest_bits : ℕ
highest_bits = 0x4170000000000000

unfoldable penalty_bits : Float → Ratios → ℕ
unfolding ratio_penalty lowered eight_tenths is_near of_bits to_bits sub mul div le
penalty_bits tolerance r = to_bits binary64 (ratio_penalty tolerance r.idx (of_bits binary64 r.c) (of_bits binary64 r.p))

cases : List Ratios
cases =
    ratios 0 one_bits one_bits ∷ ratios 1 one_bits one_bits ∷ ratios 2 one_bits one_bits ∷
    ratios 3 one_bits one_bits ∷ ratios 4 one_bits one_bits ∷ ratios 1 just_above99 one_bits ∷
    ratios 2 just_above99 one_bits ∷ ratios 3 just_above99 one_bits ∷ ratios 4 just_above99 one_bits ∷
    ratios 1 at99 one_bits ∷ ratios 2 at99 one_bits ∷ ratios 3 at99 one_bits ∷
    ratios 4 at99 one_bits ∷ ratios 1 just_below101 one_bits ∷ ratios 2 just_below101 one_bits ∷
    ratios 3 just_below101 one_bits ∷ ratios 4 just_below101 one_bits ∷ ratios 1 at101 one_bits ∷
    ratios 2 at101 one_bits ∷ ratios 3 at101 one_bits ∷ ratios 4 at101 one_bits ∷
    ratios 4 highest_bits highest_bits ∷ ratios 2 lowest_bits lowest_bits ∷ ratios 3 highest_bits lowest_bits ∷
    ratios 4 highest_bits lowest_bits ∷ ratios 3 lowest_bits highest_bits ∷ ratios 4 lowest_bits highest_bits ∷ []

penalties : List ℕ
penalties =
    0x3ff0000000000000 ∷ 0x3ff0000000000000 ∷ 0x3fe3333333333333 ∷ 0x3fe3333333333333 ∷ 0x3fe3333333333333 ∷ 0x3ff0000000000000 ∷
    0x3fe353f7ced91686 ∷ 0x3fe353f7ced91686 ∷ 0x3fe353f7ced91686 ∷ 0x3ff0000000000000 ∷ 0x3ff0000000000000 ∷ 0x3ff0000000000000 ∷
    0x3fe3333333333333 ∷ 0x3ff0000000000000 ∷ 0x3fe3126e978d4fe0 ∷ 0x3fe3126e978d4fe0 ∷ 0x3fe3126e978d4fe0 ∷ 0x3ff0000000000000 ∷
    0x3ff0000000000000 ∷ 0x3ff0000000000000 ∷ 0x3fe3333333333333 ∷ 0xc15999995999999a ∷ 0x3feffffff3333333 ∷ 0x3ff0000000000000 ∷
    0x3feffffff3333333 ∷ 0x3ff0000000000000 ∷ 0xc15999995999999a ∷ []

shown_penalties : map (penalty_bits hundredth) cases ≡ penalties
unfolding cases penalties penalty_bits hundredth round
shown_penalties = refl

-- at the tolerance itself, which counts: 1 - 127 / 128 is 1 / 128
shown_margin : penalty_bits (fin false 1 (negsuc 6)) (ratios 2 0x3fefc00000000000 one_bits) ≡ 0x3fe34ccccccccccc
unfolding penalty_bits
shown_margin = refl
