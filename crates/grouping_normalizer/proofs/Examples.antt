-- The scope's starred example of the normaliser, and others, with the margin 5.0: each list of deltas with the bits of what each delta counts as.
use mathlib.Core.Path.{◌≡◌, refl}
use mathlib.Core.Bool.{false}
use mathlib.Core.List.{List, [], ◌∷◌, map}
use Prim.Native.Nat.{ℕ}
use lib.IntN.{pos}
use lib.Ieee.{Float, fin, binary64, round, add, sub, div, le, lt, eq, of_int, of_bits, to_bits}
use Rattle.numeric.specs.Near.{abs_of, is_near}
use Rattle.numeric.specs.TotalOrder.{total_order}
use Rattle.numeric.specs.RoundTiesEven.{round_ties_even}
use Rattle.numeric_sort.specs.Ordered.{insert, ordered}
use Rattle.grouping_normalizer.specs.Normalizer.{alike, unrepeated, distinct, sets_after, sets, holds, middle, middle_of, normal_of, normalized}

-- 5.0
margin : Float
margin = fin false 5 (pos 0)

-- a whole number of milliseconds
whole : ℕ → Float
whole n = of_int binary64 (pos n)

bits : List Float → List ℕ
bits values = map (to_bits binary64) values

record Example : Type 0 where
  deltas : List Float
  normal : List ℕ

examples : List Example
examples =
    -- one set of two: half their sum
    record { deltas = whole 100 ∷ whole 105 ∷ []; normal = 0x4059_a000_0000_0000 ∷ 0x4059_a000_0000_0000 ∷ [] }
    -- two sets: 107 is near 103, and not near the set's first value
    ∷ record { deltas = whole 100 ∷ whole 103 ∷ whole 107 ∷ []; normal = 0x4059_6000_0000_0000 ∷ 0x4059_6000_0000_0000 ∷ 0x405a_c000_0000_0000 ∷ [] }
    -- the notes keep their places, and a repeated delta counts once: 102.5 three times
    ∷ record { deltas = whole 105 ∷ whole 100 ∷ whole 105 ∷ []; normal = 0x4059_a000_0000_0000 ∷ 0x4059_a000_0000_0000 ∷ 0x4059_a000_0000_0000 ∷ [] }
    -- of three the middle one: 102 three times
    ∷ record { deltas = whole 104 ∷ whole 102 ∷ whole 100 ∷ []; normal = 0x4059_8000_0000_0000 ∷ 0x4059_8000_0000_0000 ∷ 0x4059_8000_0000_0000 ∷ [] }
    -- one note, and none
    ∷ record { deltas = whole 100 ∷ []; normal = 0x4059_0000_0000_0000 ∷ [] }
    ∷ record { deltas = []; normal = [] }
    ∷ []

-- every list comes out as it says
examples_right : map (λ (e : Example). bits (normalized margin e.deltas)) examples ≡ map (λ (e : Example). e.normal) examples
unfolding examples margin whole bits normalized normal_of middle_of middle holds sets sets_after distinct unrepeated alike ordered insert total_order is_near
    abs_of
    add sub div le lt eq of_int to_bits round
examples_right = refl

-- 102.5 is as near to 102 as to 103: the even one
whole_right : to_bits binary64 (round_ties_even (of_bits binary64 0x4059_a000_0000_0000)) ≡ 0x4059_8000_0000_0000
unfolding round_ties_even of_bits to_bits round
whole_right = refl

-- −0.0 stands before +0.0, and they are distinct
zeros_right : bits (distinct (of_bits binary64 0 ∷ of_bits binary64 0x8000_0000_0000_0000 ∷ of_bits binary64 0 ∷ [])) ≡ 0x8000_0000_0000_0000 ∷ 0 ∷ []
unfolding bits distinct unrepeated alike ordered insert total_order lt eq of_bits to_bits
zeros_right = refl

-- the deltas themselves may stand in another order: sorting exchanges 105 and 100
deltas_turned : bits (ordered (whole 105 ∷ whole 100 ∷ [])) ≡ 0x4059_0000_0000_0000 ∷ 0x405a_4000_0000_0000 ∷ []
unfolding bits whole ordered insert total_order lt eq of_int to_bits round
deltas_turned = refl
