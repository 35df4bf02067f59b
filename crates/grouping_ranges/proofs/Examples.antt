-- Worked examples, computed by antt: the class that two ranges surely have, with the margin 5.0.
use mathlib.Core.Path.{◌≡◌, refl}
use mathlib.Core.Bool.{false}
use mathlib.Core.List.{List, [], ◌∷◌, map}
use Prim.Native.Nat.{ℕ}
use lib.IntN.{pos}
use lib.Ieee.{Float, fin, binary64, round, add, sub, le, lt, of_int, of_bits}
use Rattle.numeric.specs.Near.{abs_of, is_near}
use Rattle.grouping_interval.specs.IntervalGrouping.{is_rise}
use Rattle.grouping_ranges.specs.declared.Range.{Range}
use Rattle.grouping_ranges.specs.SureClass.{sure_class}

-- 5.0
margin : Float
margin = fin false 5 (pos 0)

whole : ℕ → Float
whole n = of_int binary64 (pos n)

record Example : Type 0 where
  first : Range
  second : Range
  class : ℕ

-- the ends in whole milliseconds
known : ℕ → ℕ → Range
known low high = record { low = whole low; high = whole high }

-- one value, by its bits
value : ℕ → Range
value bits = record { low = of_bits binary64 bits; high = of_bits binary64 bits }

examples : List Example
examples =
    -- near at the ends that are farthest apart, and at those alone that face each other
    record { first = known 100 102; second = known 104 105; class = 0 }
    ∷ record { first = known 100 102; second = known 104 108; class = 3 }
    -- a rise, and the same the other way round
    ∷ record { first = known 100 102; second = known 108 110; class = 1 }
    ∷ record { first = known 108 110; second = known 100 102; class = 2 }
    -- ranges that meet hold two equal values
    ∷ record { first = known 100 200; second = known 150 160; class = 3 }
    -- 2^−51 and 5 + 2^−50 are near, and by the sum a rise: near is asked first
    ∷ record { first = value 0x3cc0_0000_0000_0000; second = value 0x4014_0000_0000_0001; class = 0 }
    -- 4 + 3 · 2^−50 and 9 + 2^−48 are neither near nor a rise, though the second is the higher
    ∷ record { first = value 0x4010_0000_0000_0003; second = value 0x4022_0000_0000_0002; class = 2 }
    -- up to 20 for the first: neither at all four corners, and near where both are 9 + 2^−48
    ∷ record {
      first = record { low = of_bits binary64 0x4010_0000_0000_0003; high = whole 20 };
      second = value 0x4022_0000_0000_0002;
      class = 3;
    }
    -- from 0.0 to −0.0, which are equal, and 5.0
    ∷ record { first = record { low = whole 0; high = of_bits binary64 0x8000_0000_0000_0000 }; second = known 5 5; class = 0 }
    ∷ []

-- every pair of ranges has the class that it says
examples_right : map (λ (e : Example). sure_class margin e.first e.second) examples ≡ map (λ (e : Example). e.class) examples
unfolding examples margin whole known value sure_class is_rise is_near abs_of add sub le lt of_int of_bits round
examples_right = refl
