-- Neighbouring values in groups (scope: interval_grouping.rs). A group has its first value whatever it is, and each
-- further one that is near the one behind it. At one that is not, the group ends: with it, if the value behind it is
-- higher by more than the margin, else before it. The last value of all has none behind it: it goes on with its group
-- if the one before is near it, and there are more than two.
--
-- Of two neighbours the grouping asks their class alone, which is a parameter: so values of which each is known to
-- within a range are grouped by the same definition (change requests: 6/12). Notes are grouped by their deltas, groups
-- by their intervals. The margin is 5.0 in the scope, and a setting of a call since 7/12.
use Rattle.std.specs.Prelude.{ℕ, Bool, cond, ◌&&◌, List, [], ◌∷◌, eqb, ltb, length, Float}
use Rattle.std.specs.Float.{binary64}
use Rattle.std.specs.Float.Ieee.{add, lt}
use Rattle.numeric.specs.Near.{is_near}

-- w is higher than v by more than the margin
unfoldable pub is_rise : Float → Float → Float → Bool
is_rise margin v w = lt (add binary64 v margin) w

-- the class of two neighbours: near 0, a rise 1, neither 2. Near is asked before rise
unfoldable pub pair_class : Float → Float → Float → ℕ
pair_class margin v w = cond (is_near margin v w) 0 (cond (is_rise margin v w) 1 2)

-- whether the last value of all goes on with the group that took the one before it, by the class of the two. `many`
-- says that there are more than two values in all
abbrev pub last_taken : Bool → ℕ → Bool
last_taken many class = many && eqb class 0

-- the marks of the values behind one that a group took, which is `last`: 1 opens a group, 0 continues it
unfoldable pub marks_after : {A : Type 0} → (A → A → ℕ) → Bool → A → List A → List ℕ
marks_after class many last [] = []
marks_after class many last (v ∷ []) = cond (last_taken many (class last v)) 0 1 ∷ []
marks_after class many last (v ∷ w ∷ rest) =
    cond (eqb (class v w) 0) (0 ∷ marks_after class many v (w ∷ rest))
    (cond (eqb (class v w) 1) (0 ∷ 1 ∷ marks_after class many w rest) (1 ∷ marks_after class many v (w ∷ rest)))

-- which values open a group
unfoldable pub class_marks : {A : Type 0} → (A → A → ℕ) → List A → List ℕ
class_marks class [] = []
class_marks class (v ∷ values) = 1 ∷ marks_after class (ltb 1 (length values)) v values

-- of times, by the margin
unfoldable pub interval_marks : Float → List Float → List ℕ
interval_marks margin values = class_marks (pair_class margin) values
