-- What the walk over the groups' own intervals asks and leaves. The deltas are lent, and each group's are put in order
-- when it is reached.
use Rattle.std.specs.Prelude.{◌≡◌, ℕ, zero, suc, ◌-◌, ◌≤◌, ◌<◌, List, [], ◌∷◌, ◌++◌, length, get_or, Float}
use Rattle.std.specs.Prelude.{Option, None}
use Rattle.lent.specs.Over.{put, part}
use Rattle.grouping_marks.specs.Marks.{group_count}
use Rattle.grouping_marks.specs.Parted.{parted}
use Rattle.numeric_sort.specs.Ordered.{AllFinite}
use Rattle.grouping_normalizer.specs.Normalizer.{distinct_in_front}
use Rattle.grouping_interval.specs.IntervalGrouping.{interval_marks}
use Rattle.grouping_same_rhythm.specs.Own.{modal_delta, owns_of, recent_of}
use Rattle.grouping_same_rhythm.specs.declared.owns.Recent.{Recent}
use Rattle.grouping_same_rhythm.specs.declared.owns.Reached.{Reached}

pub record Modal (margin : Float) (deltas₀ deltas : List Float) (r : Option Float) : Type 0 where
  pub own : r ≡ modal_delta margin deltas₀
  pub left : deltas ≡ distinct_in_front deltas₀

-- the deltas of groups, of which the first k were put in order, the distinct ones in front
unfoldable pub settled_up_to : ℕ → List (List Float) → List Float
settled_up_to k [] = []
settled_up_to zero (group ∷ groups) = group ++ settled_up_to zero groups
settled_up_to (suc k) (group ∷ groups) = distinct_in_front group ++ settled_up_to k groups

-- the own intervals before the first group
abbrev pub none_yet : Recent
none_yet = record { newest = None; second = None; third = None; fourth = None }

-- the own intervals once that of a further group is known
abbrev pub recent_with : Option Float → Recent → Recent
recent_with own r = record { newest = own; second = r.newest; third = r.second; fourth = r.third }

-- what `reach` asks: there is a group g
pub record GroupThere (margin : Float) (deltas : List Float) (g : ℕ) : Type 0 where
  pub finite : AllFinite deltas
  pub there : g < group_count (interval_marks margin deltas)

-- and promises: the own intervals at group g, and the notes from `at` to `end`, which are its own
pub record ReachedIs (margin : Float) (deltas₀ deltas : List Float) (g : ℕ) (r : Reached) : Type 0 where
  pub owns : r.owns ≡ recent_of (owns_of margin (parted (interval_marks margin deltas₀) deltas₀)) g
  pub from : r.at < r.end
  pub upto : r.end ≤ length deltas₀
  pub notes : (xs : List ℕ) → length xs ≡ length deltas₀
      → get_or (parted (interval_marks margin deltas₀) xs) g [] ≡ part r.at (r.end - r.at) xs
  pub left : deltas ≡ settled_up_to (suc g) (parted (interval_marks margin deltas₀) deltas₀)
  -- these notes' places alone changed since the group before was reached
  pub alone : deltas
      ≡ put r.at (distinct_in_front (part r.at (r.end - r.at) deltas₀))
      (settled_up_to g (parted (interval_marks margin deltas₀) deltas₀))
