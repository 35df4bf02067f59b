-- A chart of which each delta lies in a range, as a foot switch tells it (change requests: 6/12): what is sure of each
-- note and the next, and the groups, where they are the same whatever the deltas are.
use Rattle.std.specs.Prelude.{ℕ, ◌+◌, Bool, cond, List, ltb, length, get_or, Float}
use Rattle.std.specs.Float.{nan}
use Rattle.grouping_marks.specs.Marks.{group_count, group_numbers}
use Rattle.grouping_chart.specs.Object.{notes}
use Rattle.grouping_interval.specs.Notes.{note_objects}
use Rattle.grouping_interval.specs.IntervalGrouping.{class_marks}
use Rattle.grouping_interval.specs.LookedAt.{looked_at, among}
use Rattle.grouping_ranges.specs.declared.Range.{Range}
use Rattle.grouping_ranges.specs.SureClass.{sure_class}
use Rattle.call_rhythm.specs.Rhythm.{per_note}

-- the chart's lists, with the lowest and the highest that each object's delta may be
pub record TapChart : Type 0 where
  pub kinds : List ℕ
  pub starts : List Float
  pub lowest : List Float
  pub highest : List Float
  pub ratios : List Float

-- the chart that is made of what the five slices hold
abbrev pub tap_chart : List ℕ → List Float → List Float → List Float → List Float → TapChart
tap_chart kinds starts lowest highest ratios =
    record { kinds = kinds; starts = starts; lowest = lowest; highest = highest; ratios = ratios }

abbrev pub tap_size : TapChart → ℕ
tap_size t = length t.kinds

-- what is known of the delta of object o
unfoldable pub range_of : TapChart → ℕ → Range
range_of t o = record { low = get_or t.lowest o nan; high = get_or t.highest o nan }

-- the class that two objects surely have, or 3
unfoldable pub class_of : Float → TapChart → ℕ → ℕ → ℕ
class_of margin t o p = sure_class margin (range_of t o) (range_of t p)

-- which notes, by their objects, open a group: the grouping of deltas, by these classes
unfoldable pub tap_marks : Float → TapChart → List ℕ
tap_marks margin t = class_marks (class_of margin t) (note_objects t.kinds)

-- whether two neighbours at which the grouping looks are open
unfoldable pub is_open : Float → TapChart → Bool
is_open margin t = among 3 (looked_at (class_of margin t) (note_objects t.kinds))

-- the class of note number j and the next, and 255 for the last note
unfoldable pub class_at : Float → TapChart → ℕ → ℕ
class_at margin t j =
    let object = λ (j : ℕ). get_or (note_objects t.kinds) j 0 in
    cond (ltb (j + 1) (length (notes t.kinds))) (class_of margin t (object j) (object (j + 1))) 255

-- a NonHit has 255 for a class
unfoldable pub pairs_of : Float → TapChart → List ℕ
pairs_of margin t = per_note 255 (class_at margin t) t.kinds

-- each note's group; a NonHit has 65535 for a number
unfoldable pub tap_groups_of : Float → TapChart → List ℕ
tap_groups_of margin t = per_note 65535 (λ (j : ℕ). get_or (group_numbers (tap_marks margin t)) j 0) t.kinds

-- how many groups there are
unfoldable pub tap_groups_in : Float → TapChart → ℕ
tap_groups_in margin t = group_count (tap_marks margin t)
