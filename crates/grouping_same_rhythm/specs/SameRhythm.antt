-- The rhythm groups of a chart's notes, by the deltas, and the groups' intervals, by where they start
-- (scope: same_rhythm_hit_object_grouping.rs).
use Rattle.std.specs.Prelude.{ℕ, false, cond, List, [], ◌∷◌, map, get_or, Float}
use Rattle.std.specs.Float.{nan, inf, binary64}
use Rattle.std.specs.Float.Ieee.{sub}
use Rattle.numeric.specs.Constants.{zero64}
use Rattle.numeric.specs.Near.{is_near}
use Rattle.grouping_marks.specs.Parted.{parted}
use Rattle.grouping_interval.specs.Notes.{note_objects, of_notes}
use Rattle.grouping_interval.specs.IntervalGrouping.{interval_marks}

-- which notes open a rhythm group
unfoldable pub rhythm_marks : Float → List ℕ → List Float → List ℕ
rhythm_marks margin kinds deltas = interval_marks margin (of_notes kinds deltas)

-- the objects of each group
unfoldable pub group_objects : Float → List ℕ → List Float → List (List ℕ)
group_objects margin kinds deltas = parted (rhythm_marks margin kinds deltas) (note_objects kinds)

-- and their deltas
unfoldable pub group_deltas : Float → List ℕ → List Float → List (List Float)
group_deltas margin kinds deltas = parted (rhythm_marks margin kinds deltas) (of_notes kinds deltas)

-- what stands first in each group
unfoldable pub firsts_of : List (List ℕ) → List ℕ
firsts_of groups = map (λ (group : List ℕ). get_or group 0 0) groups

-- the start of each object
unfoldable pub starts_of : List Float → List ℕ → List Float
starts_of starts objects = map (λ (i : ℕ). get_or starts i nan) objects

-- from one group's start to the next one's, and 0.0 where the two are near
unfoldable pub between : Float → Float → Float → Float
between margin previous start = cond (is_near margin start previous) zero64 (sub binary64 start previous)

-- the intervals of groups with these starts, behind a group with the start `previous`
unfoldable pub intervals_after : Float → Float → List Float → List Float
intervals_after margin previous [] = []
intervals_after margin previous (start ∷ starts) = between margin previous start ∷ intervals_after margin start starts

-- of all groups: the first has none before it, and infinity stands for it
unfoldable pub intervals_of : Float → List Float → List Float
intervals_of margin [] = []
intervals_of margin (start ∷ starts) = inf false ∷ intervals_after margin start starts

-- each group's interval
unfoldable pub group_intervals : Float → List ℕ → List Float → List Float → List Float
group_intervals margin kinds starts deltas =
    intervals_of margin (starts_of starts (firsts_of (group_objects margin kinds deltas)))
