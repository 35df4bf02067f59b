-- The scope's starred example of the walk, at the threshold 0.1: own intervals, the newest first, and the bits of what the walk over 3 gives.
use mathlib.Core.Path.{◌≡◌, refl}
use mathlib.Core.Bool.{false}
use mathlib.Core.List.{List, [], ◌∷◌, map}
use Prim.Native.Nat.{ℕ}
use lib.IntN.{pos}
use lib.Ieee.{Float, binary64, round, sub, div, le, of_int, to_bits}
use Rattle.numeric.specs.Constants.{eight_tenths}
use Rattle.numeric.specs.Near.{is_near}
use Rattle.std.specs.Prelude.{Option, None, Some}
use Rattle.evaluator_rhythm.specs.RepeatedInterval.{present, similar, similar_to, some_pair, walk_penalty}

-- 0.1, the f64 nearest to 1 / 10
tenth : Float
tenth = round binary64 false 1 10

-- a whole number of milliseconds
millis : ℕ → Option Float
millis n = Some (of_int binary64 (pos n))

record Example : Type 0 where
  owns : List (Option Float)
  penalty : ℕ

examples : List Example
examples =
    -- from the newest back, 110, 150, 100 gives 1.0
    record { owns = millis 110 ∷ millis 150 ∷ millis 100 ∷ []; penalty = 0x3ff0_0000_0000_0000 }
    -- "100, 150, 110: 0.8"
    ∷ record { owns = millis 100 ∷ millis 150 ∷ millis 110 ∷ []; penalty = 0x3fe9_9999_9999_999a }
    -- fewer than three groups, and one whose own interval is absent
    ∷ record { owns = millis 100 ∷ millis 100 ∷ []; penalty = 0x3ff0_0000_0000_0000 }
    ∷ record { owns = millis 100 ∷ None ∷ millis 100 ∷ millis 100 ∷ []; penalty = 0x3ff0_0000_0000_0000 }
    -- zeros are not similar: 0 ÷ 0 is a NaN
    ∷ record { owns = millis 0 ∷ millis 0 ∷ millis 0 ∷ []; penalty = 0x3ff0_0000_0000_0000 }
    ∷ []

-- every walk comes out as it says
examples_right : map (λ (e : Example). to_bits binary64 (walk_penalty tenth 3 e.owns)) examples ≡ map (λ (e : Example). e.penalty) examples
unfolding examples tenth millis walk_penalty some_pair similar_to similar present eight_tenths is_near sub div le of_int round to_bits
examples_right = refl
