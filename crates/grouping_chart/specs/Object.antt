-- How objects are numbered (scope: object.rs): idx says how many objects stand before one, note_idx how many notes,
-- save that a NonHit's is always 0. The notes before and after an object are found by its note_idx: so a NonHit and the
-- first note have none before, and after a NonHit stands note 1, wherever it is. A list of kinds has a number for each
-- object: 0 Center, 1 Rim, 2 NonHit.
use Rattle.std.specs.Prelude.{ℕ, zero, suc, ◌+◌, Bool, cond, List, [], ◌∷◌, ltb, length, take, get_or}
use Rattle.std.specs.Prelude.{Option, Some, None, option_map}
use Rattle.grouping_chart.specs.declared.object.Kind.{Kind}
use Rattle.grouping_chart.specs.declared.object.Kind.TheVariants.{Center, Rim, NonHit}

-- the number by which a list has a kind
abbrev pub kind_number : Kind → ℕ
kind_number Center = 0
kind_number Rim = 1
kind_number NonHit = 2

-- Center and Rim are notes
unfoldable pub is_note : ℕ → Bool
is_note k = ltb k 2

-- the kinds of the notes, in order: note number j is the j-th of these
unfoldable pub notes : List ℕ → List ℕ
notes [] = []
notes (k ∷ ks) = cond (is_note k) (k ∷ notes ks) (notes ks)

-- the note_idx of object i
unfoldable pub note_idx : List ℕ → ℕ → ℕ
note_idx ks i = cond (is_note (get_or ks i 0)) (length (notes (take i ks))) 0

-- the number of the note before the one numbered j: note 0 has none
unfoldable pub note_before : ℕ → Option ℕ
note_before zero = None
note_before (suc j) = Some j

-- the number of the note after the one numbered j, of n notes: the last has none
unfoldable pub note_following : ℕ → ℕ → Option ℕ
note_following n j = cond (ltb (j + 1) n) (Some (j + 1)) None

-- the numbers of the previous and of the next note of object i: the source's previous_note(o, 0) and next_note(o, 0)
unfoldable pub previous_note : List ℕ → ℕ → Option ℕ
previous_note ks i = note_before (note_idx ks i)

unfoldable pub next_note : List ℕ → ℕ → Option ℕ
next_note ks i = note_following (length (notes ks)) (note_idx ks i)

-- the kind of the previous note of object i
abbrev pub previous_kind : List ℕ → ℕ → Option ℕ
previous_kind ks i = option_map (λ j. get_or (notes ks) j 0) (previous_note ks i)
