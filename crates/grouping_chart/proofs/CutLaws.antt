-- A chart cut in two: its notes are those of the front and those of the back, and a note's number counts the notes before it.
use mathlib.Core.Path.{◌≡◌, ap, ◌∙◌}
use mathlib.Core.Bool.{true}
use mathlib.Core.List.{List}
use Prim.Native.Nat.{ℕ, ◌+◌}
use lib.ListN.{length, take, drop, get_or, length-append, take-append-drop}
use Rattle.grouping_chart.specs.Object.{is_note, notes, note_idx}
use Rattle.grouping_chart.proofs.ObjectLaws.{notes-append}

-- the notes before object i, and those from it on
pub notes_split : (kinds : List ℕ) (i : ℕ) → length (notes kinds) ≡ length (notes (take i kinds)) + length (notes (drop i kinds))
notes_split kinds i =
    simp take-append-drop at (ap length (notes-append (take i kinds) (drop i kinds)) ∙ length-append (notes (take i kinds)) (notes (drop i kinds)))

pub note_number : (kinds : List ℕ) (i : ℕ) → is_note (get_or kinds i 0) ≡ true → note_idx kinds i ≡ length (notes (take i kinds))
unfolding note_idx
note_number kinds i e = rw e
