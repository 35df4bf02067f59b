-- A chart's notes, its hits at the centre and the rim: which objects they are, and what a list with an element for each
-- object has for them (scope: object.rs).
use Rattle.std.specs.Prelude.{ℕ, ◌+◌, cond, List, [], ◌∷◌, Float}
use Rattle.grouping_chart.specs.Object.{is_note}

-- the numbers of the objects that are notes, where the kinds begin at object i
unfoldable pub notes_from : ℕ → List ℕ → List ℕ
notes_from i [] = []
notes_from i (k ∷ kinds) = cond (is_note k) (i ∷ notes_from (i + 1) kinds) (notes_from (i + 1) kinds)

-- note number j is the j-th of these objects
unfoldable pub note_objects : List ℕ → List ℕ
note_objects kinds = notes_from 0 kinds

-- of the objects' values, such as their deltas, those of the notes: that of note number j is the j-th of these
unfoldable pub of_notes : List ℕ → List Float → List Float
of_notes [] values = []
of_notes (k ∷ kinds) [] = []
of_notes (k ∷ kinds) (v ∷ values) = cond (is_note k) (v ∷ of_notes kinds values) (of_notes kinds values)
