-- What sorting a set again does: nothing (request 3/12). The source sorts each set before it takes the middle, and
-- `normal_of` does not. Two lists are equal where they have equal values at every place, and equal finite values have
-- the same bits: −0 is not +0.
use Rattle.std.specs.Prelude.{ℕ, ◌≡◌, List, [], map, take, drop, get_or, Float}
use Rattle.numeric_sort.specs.Ordered.{ordered}
use Rattle.grouping_normalizer.specs.Normalizer.{distinct, sets, middle_of, normal_of}

-- It holds of finite deltas (`sorted_again`, in proofs/SortedLaws.antt), for every margin, a NaN or a negative one too.
pub record SortedAgain (deltas : List Float) : Type 0 where
  -- the distinct values at any neighbouring places, `size` of them from place `at` on
  pub places : (at size : ℕ)
      → ordered (take size (drop at (distinct deltas))) ≡ take size (drop at (distinct deltas))
  -- each set; past the last one there is the empty list
  pub set : (margin : Float) (i : ℕ)
      → ordered (get_or (sets margin (distinct deltas)) i []) ≡ get_or (sets margin (distinct deltas)) i []
  -- so x counts as the same where each set is sorted before its middle is taken
  pub answer : (margin x : Float)
      → middle_of x (map ordered (sets margin (distinct deltas))) ≡ normal_of margin deltas x
