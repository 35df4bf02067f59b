-- The number of each object's rhythm group and of its pattern group, and how many of both there are (scope: Calls and
-- what they fill).
use Rattle.std.specs.Prelude.{ℕ, cond, List, length, get_or, Float}
use Rattle.lent.specs.Scan.{tabulate}
use Rattle.grouping_marks.specs.Marks.{group_count, group_numbers}
use Rattle.grouping_chart.specs.Object.{is_note, notes, note_idx}
use Rattle.grouping_interval.specs.IntervalGrouping.{interval_marks}
use Rattle.grouping_same_rhythm.specs.SameRhythm.{rhythm_marks, group_intervals}
use Rattle.grouping_same_rhythm.specs.SamePatterns.{pattern_number}
use Rattle.call_rhythm.specs.declared.tables.GroupCounts.{GroupCounts}

-- what is said of each note by its number, object by object, and this for a NonHit
unfoldable pub per_note : {A : Type 0} → A → (ℕ → A) → List ℕ → List A
per_note none f kinds =
    tabulate (λ (i : ℕ). cond (is_note (get_or kinds i 0)) (f (note_idx kinds i)) none) (length kinds)

-- the group of note number j; a NonHit has 65535 for a number
unfoldable pub note_group : Float → List ℕ → List Float → ℕ → ℕ
note_group margin kinds deltas j = get_or (group_numbers (rhythm_marks margin kinds deltas)) j 0

unfoldable pub group_of : Float → List ℕ → List Float → List ℕ
group_of margin kinds deltas = per_note 65535 (note_group margin kinds deltas) kinds

unfoldable pub pattern_group_of : Float → List ℕ → List Float → List Float → List ℕ
pattern_group_of margin kinds starts deltas =
    let intervals = group_intervals margin kinds starts deltas in
    per_note 65535 (λ (j : ℕ). pattern_number margin intervals (note_group margin kinds deltas j)) kinds

-- how many there are
unfoldable pub groups_in : Float → List ℕ → List Float → ℕ
groups_in margin kinds deltas = group_count (rhythm_marks margin kinds deltas)

unfoldable pub pattern_groups_in : Float → List ℕ → List Float → List Float → ℕ
pattern_groups_in margin kinds starts deltas =
    group_count (interval_marks margin (group_intervals margin kinds starts deltas))

abbrev pub counts_of : Float → List ℕ → List Float → List Float → GroupCounts
counts_of margin kinds starts deltas = record {
  notes = length (notes kinds);
  groups = groups_in margin kinds deltas;
  patterns = pattern_groups_in margin kinds starts deltas;
}
