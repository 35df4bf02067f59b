-- What each list of a chart's rhythm groups is made of, an equation each, for crates above this one.
use mathlib.Core.Path.{◌≡◌, refl}
use mathlib.Core.List.{List}
use Prim.Native.Nat.{ℕ}
use lib.ListN.{get_or}
use lib.Ieee.{Float}
use Rattle.grouping_marks.specs.Marks.{group_numbers}
use Rattle.grouping_marks.specs.Parted.{parted}
use Rattle.grouping_interval.specs.Notes.{note_objects, of_notes}
use Rattle.grouping_interval.specs.IntervalGrouping.{interval_marks}
use Rattle.grouping_same_rhythm.specs.SameRhythm.{rhythm_marks, group_objects, group_deltas, firsts_of, starts_of, intervals_of, group_intervals}
use Rattle.grouping_same_rhythm.specs.SamePatterns.{pattern_number}

module _ (margin : Float) (kinds : List ℕ) (deltas : List Float) where
  pub rhythm_marks_made : rhythm_marks margin kinds deltas ≡ interval_marks margin (of_notes kinds deltas)
  unfolding rhythm_marks
  rhythm_marks_made = refl

  pub group_objects_made : group_objects margin kinds deltas ≡ parted (rhythm_marks margin kinds deltas) (note_objects kinds)
  unfolding group_objects
  group_objects_made = refl

  pub group_deltas_made : group_deltas margin kinds deltas ≡ parted (rhythm_marks margin kinds deltas) (of_notes kinds deltas)
  unfolding group_deltas
  group_deltas_made = refl

  pub group_intervals_made : (starts : List Float)
      → group_intervals margin kinds starts deltas ≡ intervals_of margin (starts_of starts (firsts_of (group_objects margin kinds deltas)))
  unfolding group_intervals
  group_intervals_made starts = refl

pub pattern_number_made : (margin : Float) (intervals : List Float) (g : ℕ)
    → pattern_number margin intervals g ≡ get_or (group_numbers (interval_marks margin intervals)) g 0
unfolding pattern_number
pattern_number_made margin intervals g = refl
