-- What each delta of one group counts as (scope: delta_time_normalizer.rs). The deltas that differ are put in order and
-- cut into sets, each of those near its first value; a delta counts as the middle of its set. What is near is told by a
-- margin, 5.0 in the scope, and a setting of a call since 7/12.
use Rattle.std.specs.Prelude.{◌-◌, ◌/◌, ◌%◌, ◌≡◌, Bool, false, cond, ◌&&◌, ◌||◌, List, [], ◌∷◌, ◌++◌, map, eqb, length}
use Rattle.std.specs.Prelude.{get_or, Float}
use Rattle.std.specs.Float.{nan, binary64}
use Rattle.std.specs.Float.Ieee.{add, div}
use Rattle.numeric.specs.Constants.{two64}
use Rattle.numeric.specs.Near.{is_near}
use Rattle.numeric.specs.TotalOrder.{total_order}
use Rattle.lent.specs.Over.{over}
use Rattle.numeric_sort.specs.Ordered.{ordered}

-- equal in all bits, for values that are no NaN: each stands at or before the other
unfoldable pub alike : Float → Float → Bool
alike x y = total_order x y && total_order y x

-- of neighbours that are alike one stays
unfoldable pub unrepeated : List Float → List Float
unrepeated [] = []
unrepeated (x ∷ []) = x ∷ []
unrepeated (x ∷ y ∷ ys) = cond (alike x y) (unrepeated (y ∷ ys)) (x ∷ unrepeated (y ∷ ys))

-- each value once, in total order
unfoldable pub distinct : List Float → List Float
distinct deltas = unrepeated (ordered deltas)

-- the sets of the values that follow, where the open set is `set` so far and its first value is `first`
unfoldable pub sets_after : Float → Float → List Float → List Float → List (List Float)
sets_after margin first set [] = set ∷ []
sets_after margin first set (v ∷ values) =
    cond (is_near margin v first) (sets_after margin first (set ++ (v ∷ [])) values)
    (set ∷ sets_after margin v (v ∷ []) values)

unfoldable pub sets : Float → List Float → List (List Float)
sets margin [] = []
sets margin (v ∷ values) = sets_after margin v (v ∷ []) values

unfoldable pub holds : Float → List Float → Bool
holds x [] = false
holds x (v ∷ values) = alike x v || holds x values

-- the middle value; of an even number of them half the sum of the middle two
unfoldable pub middle : List Float → Float
middle set =
    cond (eqb (length set % 2) 1) (get_or set (length set / 2) nan)
    (div binary64 (add binary64 (get_or set (length set / 2 - 1) nan) (get_or set (length set / 2) nan)) two64)

-- the middle of the set that holds x; an x that no set holds stays, as in the source
unfoldable pub middle_of : Float → List (List Float) → Float
middle_of x [] = x
middle_of x (set ∷ rest) = cond (holds x set) (middle set) (middle_of x rest)

-- what the deltas map x to
unfoldable pub normal_of : Float → List Float → Float → Float
normal_of margin deltas x = middle_of x (sets margin (distinct deltas))

-- all of them
unfoldable pub normalized : Float → List Float → List Float
normalized margin deltas = map (normal_of margin deltas) deltas

-- deltas as they are left: the distinct ones in front, and behind them what the order has there
unfoldable pub distinct_in_front : List Float → List Float
distinct_in_front deltas = over (distinct deltas) (ordered deltas)

-- what `normal_of` promises
pub record NormalOf (margin : Float) (old new : List Float) (x r : Float) : Type 0 where
  pub answer : r ≡ normal_of margin old x
  pub values : new ≡ distinct_in_front old
