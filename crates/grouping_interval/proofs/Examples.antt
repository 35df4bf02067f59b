-- The scope's starred examples of deltas, with the margin 5.0: each list of deltas with its marks, 1 where a note opens a group and 0 where it continues one.
use mathlib.Core.Path.{◌≡◌, refl}
use mathlib.Core.Bool.{false}
use mathlib.Core.List.{List, [], ◌∷◌, map}
use Prim.Native.Nat.{ℕ}
use lib.IntN.{pos}
use lib.Ieee.{Float, fin, binary64, round, add, sub, le, lt, of_int, of_bits}
use Rattle.numeric.specs.Near.{abs_of, is_near}
use Rattle.grouping_interval.specs.IntervalGrouping.{is_rise, pair_class, marks_after, class_marks, interval_marks}

-- 5.0
margin : Float
margin = fin false 5 (pos 0)

-- a whole number of milliseconds
whole : ℕ → Float
whole n = of_int binary64 (pos n)

record Example : Type 0 where
  deltas : List Float
  marks : List ℕ

examples : List Example
examples =
    -- three alike are one group
    record { deltas = whole 100 ∷ whole 100 ∷ whole 100 ∷ []; marks = 1 ∷ 0 ∷ 0 ∷ [] }
    -- two alike, and one that differs
    ∷ record { deltas = whole 100 ∷ whole 100 ∷ whole 200 ∷ []; marks = 1 ∷ 0 ∷ 1 ∷ [] }
    -- no two alike: a group each
    ∷ record { deltas = whole 100 ∷ whole 200 ∷ whole 100 ∷ []; marks = 1 ∷ 1 ∷ 1 ∷ [] }
    -- two notes are two groups, whatever their deltas
    ∷ record { deltas = whole 100 ∷ whole 100 ∷ []; marks = 1 ∷ 1 ∷ [] }
    ∷ record { deltas = whole 100 ∷ whole 200 ∷ []; marks = 1 ∷ 1 ∷ [] }
    -- one note, and none
    ∷ record { deltas = whole 100 ∷ []; marks = 1 ∷ [] }
    ∷ record { deltas = []; marks = [] }
    -- a first pair is never looked at, and a rise takes the note before it: 100 200 200 200 is one group, 200 100 100 200 200 is three then two
    ∷ record { deltas = whole 100 ∷ whole 200 ∷ whole 200 ∷ whole 200 ∷ []; marks = 1 ∷ 0 ∷ 0 ∷ 0 ∷ [] }
    ∷ record { deltas = whole 200 ∷ whole 100 ∷ whole 100 ∷ whole 200 ∷ whole 200 ∷ []; marks = 1 ∷ 0 ∷ 0 ∷ 1 ∷ 0 ∷ [] }
    -- 3.3 3.3 8.3: 8.3 − 3.3 is above 5.0 as rounded, and 3.3 + 5.0 is 8.3 as rounded, so the last two are neither near nor a rise
    ∷ record {
      deltas = of_bits binary64 0x400a_6666_6666_6666 ∷ of_bits binary64 0x400a_6666_6666_6666 ∷ of_bits binary64 0x4020_9999_9999_999a ∷ [];
      marks = 1 ∷ 1 ∷ 1 ∷ [];
    }
    ∷ []

-- every list comes out as it says
examples_right : map (λ (e : Example). interval_marks margin e.deltas) examples ≡ map (λ (e : Example). e.marks) examples
unfolding examples margin whole interval_marks class_marks marks_after pair_class is_rise is_near abs_of add sub le lt of_int of_bits round
examples_right = refl
