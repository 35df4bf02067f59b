-- The kinds of a chart's notes, one object at a time; the notes before and after an object; a choice by the kind.
use mathlib.Core.Path.{◌≡◌, refl, ap, ◌∙◌}
use mathlib.Core.Bool.{false, cond}
use mathlib.Core.List.{List, [], ◌∷◌}
use Prim.Native.Nat.{ℕ, zero, suc, ◌≤◌}
use native.Mathlib.Omega.{arith}
use lib.Dec.{ltb}
use lib.ListN.{length, get_or}
use Rattle.std.specs.Prelude.{Some, None}
use Rattle.grouping_chart.specs.Object.{is_note, notes, note_idx, note_before, note_following, previous_note, next_note}

pub notes_none : notes [] ≡ []
unfolding notes
notes_none = refl

pub notes_first : (k : ℕ) (ks : List ℕ) → notes (k ∷ ks) ≡ cond (is_note k) (k ∷ notes ks) (notes ks)
unfolding notes
notes_first k ks = refl

-- the notes before and after an object, by its note_idx
pub previous_note_by : (ks : List ℕ) (i : ℕ) → previous_note ks i ≡ note_before (note_idx ks i)
unfolding previous_note
previous_note_by ks i = refl

pub next_note_by : (ks : List ℕ) (i : ℕ) → next_note ks i ≡ note_following (length (notes ks)) (note_idx ks i)
unfolding next_note
next_note_by ks i = refl

-- an object that is no note has note_idx 0
pub note_idx_none : (ks : List ℕ) (i : ℕ) → is_note (get_or ks i 0) ≡ false → note_idx ks i ≡ 0
unfolding note_idx
note_idx_none ks i e = rw e refl

-- so no note before it, and note 1 after it where there are two
pub previous_none : (ks : List ℕ) (i : ℕ) → is_note (get_or ks i 0) ≡ false → previous_note ks i ≡ None
unfolding note_before
previous_none ks i e = previous_note_by ks i ∙ ap note_before (note_idx_none ks i e)

pub next_one : (ks : List ℕ) (i : ℕ) → is_note (get_or ks i 0) ≡ false → next_note ks i ≡ cond (ltb 1 (length (notes ks))) (Some 1) None
unfolding note_following
next_one ks i e = next_note_by ks i ∙ ap (note_following (length (notes ks))) (note_idx_none ks i e)

-- read from a list with a place for each kind
pub by_kind : {A : Type 0} (note other d : A) (k : ℕ) → k ≤ 2 → get_or (note ∷ note ∷ other ∷ []) k d ≡ cond (is_note k) note other
unfolding is_note
by_kind note other d zero h = refl
by_kind note other d (suc zero) h = refl
by_kind note other d (suc (suc zero)) h = refl
by_kind note other d (suc (suc (suc k))) h = absurd (omega arith)
