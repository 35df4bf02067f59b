-- What the passes of turns ask of their slices, and what they leave there.
use Rattle.std.specs.Prelude.{ℕ, ◌≤◌, ◌<◌, List, length}
use Rattle.lent.specs.Scan.{tabulate}
use Rattle.lent.specs.passes.Bounds.{AllBelow}
use Rattle.grouping_chart.specs.Object.{note_idx}
use Rattle.grouping_preprocessor.specs.passes.Steps.{Tabled}
use Rattle.grouping_preprocessor.specs.declared.Levels.{Levels}

-- the note_idx of each object
unfoldable pub note_indices : List ℕ → List ℕ
note_indices kinds = tabulate (note_idx kinds) (length kinds)

-- a number for each object; object i has a streak, whose end is an object
pub record EndsRoom (numbers ends streak : List ℕ) (i : ℕ) : Type 0 where
  pub within : i < length streak
  pub streaks : AllBelow streak (length ends)
  pub objects : AllBelow ends (length numbers)

-- the encoder's tables, and room for their objects in each answer slice
pub record TurnsRoom (kinds w : List ℕ) (k : Levels) (previous next : List ℕ) : Type 0 where
  pub tabled : Tabled kinds w k
  pub previous_room : length kinds ≤ length previous
  pub next_room : length kinds ≤ length next
