-- What the passes ask of their slices, and what `list_notes` leaves in its two.
use Rattle.std.specs.Prelude.{◌≡◌, ℕ, ◌≤◌, List, length, Float}
use Rattle.lent.specs.Over.{over}
use Rattle.grouping_chart.specs.Chart.{largest}
use Rattle.grouping_interval.specs.Notes.{note_objects, of_notes}

-- room for a number for each value
pub record ValuesRoom (values : List Float) (group : List ℕ) : Type 0 where
  pub few : length values ≤ largest
  pub room : length values ≤ length group

-- a delta for each object, and room for as many notes
pub record NotesRoom (kinds : List ℕ) (deltas : List Float) (objects : List ℕ) (values : List Float) : Type 0 where
  pub few : length kinds ≤ largest
  pub whole : length deltas ≡ length kinds
  pub objects_room : length kinds ≤ length objects
  pub values_room : length kinds ≤ length values

-- each note's object over the front of one slice, its delta over the front of another, and r is how many notes there
-- are
pub record NotesListed (kinds : List ℕ) (deltas : List Float) (objects₀ objects : List ℕ)
    (values₀ values : List Float) (r : ℕ) : Type 0 where
  pub numbers : objects ≡ over (note_objects kinds) objects₀
  pub floats : values ≡ over (of_notes kinds deltas) values₀
  pub count : r ≡ length (note_objects kinds)
