-- What each note's group and the number of groups are made of, an equation each, for crates above this one.
use mathlib.Core.Path.{◌≡◌, ap}
use mathlib.Core.List.{List}
use Prim.Native.Nat.{ℕ}
use lib.ListN.{get_or}
use lib.Ieee.{Float}
use Rattle.grouping_marks.specs.Marks.{group_count, group_numbers}
use Rattle.grouping_interval.specs.Notes.{of_notes}
use Rattle.grouping_interval.specs.IntervalGrouping.{interval_marks}
use Rattle.grouping_same_rhythm.proofs.MadeLaws.{rhythm_marks_made}
use Rattle.call_rhythm.specs.Rhythm.{per_note, note_group, group_of, groups_in}

module _ (margin : Float) (kinds : List ℕ) (deltas : List Float) where
  pub group_of_made : group_of margin kinds deltas ≡ per_note 65535 (λ j. get_or (group_numbers (interval_marks margin (of_notes kinds deltas))) j 0) kinds
  unfolding group_of note_group
  group_of_made = ap (λ marks. per_note 65535 (λ j. get_or (group_numbers marks) j 0) kinds) (rhythm_marks_made margin kinds deltas)

  pub groups_in_made : groups_in margin kinds deltas ≡ group_count (interval_marks margin (of_notes kinds deltas))
  unfolding groups_in
  groups_in_made = ap group_count (rhythm_marks_made margin kinds deltas)
