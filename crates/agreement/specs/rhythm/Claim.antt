-- A chart's notes, for the rhythm claim: their deltas, their groups, which of them is a landmark, and which are
-- counterparts.
use Rattle.std.specs.Prelude.{ℕ, ◌≡◌, true, List, length, get_or, Float}
use Rattle.grouping_marks.specs.Marks.{group_numbers}
use Rattle.grouping_chart.specs.Chart.{Chart}
use Rattle.grouping_chart.specs.Object.{is_note, notes, note_idx}
use Rattle.grouping_interval.specs.Notes.{of_notes}
use Rattle.grouping_chart.specs.Settings.{Settings}
use Rattle.grouping_interval.specs.IntervalGrouping.{interval_marks}
use Rattle.agreement.specs.CommonTail.{Counterparts, last_of}
use Rattle.agreement.specs.SameGroups.{Groups, groups}
use Rattle.agreement.specs.rhythm.Landmark.{RhythmLandmark}

-- the deltas of a chart's notes
abbrev pub deltas_of : Chart → List Float
deltas_of c = of_notes c.kinds c.deltas

-- how many notes a chart has, and how many its last m objects have
abbrev pub note_count : Chart → ℕ
note_count c = length (deltas_of c)

abbrev pub tail_notes : ℕ → Chart → ℕ
tail_notes m c = length (notes (last_of m c.kinds))

-- the groups that `group_by_interval` makes of notes with these deltas, and so of a chart's notes
abbrev pub interval_groups : Float → List Float → Groups
interval_groups margin deltas = groups (length deltas) (group_numbers (interval_marks margin deltas))

abbrev pub rhythm_groups : Settings → Chart → Groups
rhythm_groups s c = interval_groups s.margin (deltas_of c)

-- note i of a chart is a landmark, where its last m objects are the common tail
abbrev pub LandmarkNote : Settings → Chart → ℕ → ℕ → Type 0
LandmarkNote s c m i = RhythmLandmark s.margin (deltas_of c) (tail_notes m c) i

-- object o of the one chart and object o' of the other are notes both or neither, and then they are counterparts as
-- notes
pub record SameNote (c : Chart) (o : ℕ) (c' : Chart) (o' : ℕ) : Type 0 where
  pub both : is_note (get_or c.kinds o 0) ≡ is_note (get_or c'.kinds o' 0)
  pub counterparts : is_note (get_or c.kinds o 0) ≡ true
      → Counterparts (note_count c) (note_count c') (note_idx c.kinds o) (note_idx c'.kinds o')
