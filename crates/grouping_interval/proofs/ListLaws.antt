-- The loop of `list_notes`: j notes are listed, and what is left of both lists is what the objects from i on give.
use mathlib.Core.Path.{◌≡◌, refl, ◌∙◌, ap}
use mathlib.Core.Bool.{true, false}
use mathlib.Core.List.{List}
use Prim.Native.Nat.{ℕ, ◌+◌, ◌≤◌, ◌<◌}
use native.Mathlib.Nat.{zero-add}
use native.Mathlib.Omega.{arith}
use lib.ListN.{length, drop, get_or, set, length-drop}
use lib.Ieee.{Float, nan}
use Rattle.lent.proofs.FillLaws.{Fill, Onward, fill_start_front, fill_next, fill_end_front}
use Rattle.grouping_chart.specs.Object.{is_note, notes}
use Rattle.grouping_interval.specs.Notes.{notes_from, note_objects, of_notes}
use Rattle.grouping_chart.proofs.ObjectLaws.{notes-few}
use Rattle.grouping_interval.proofs.NoteLaws.{length_note_objects, length_of_notes, objects_all, objects-step, of_notes-step, objects-over}
use Rattle.grouping_interval.specs.passes.Rooms.{NotesRoom, NotesListed}

pub record Listing (ks : List ℕ) (ds : List Float) (o₀ o : List ℕ) (v₀ v : List Float) (j i : ℕ) : Type 0 where
  pub room : NotesRoom ks ds o₀ v₀
  pub numbers : Fill (note_objects ks) (length (notes ks)) 0 o₀ o j
  pub floats : Fill (of_notes ks ds) (length (notes ks)) 0 v₀ v j
  pub numbers_left : drop j (note_objects ks) ≡ notes_from i (drop i ks)
  pub floats_left : drop j (of_notes ks ds) ≡ of_notes (drop i ks) (drop i ds)
  pub behind : j ≤ i

pub listing_start : (ks : List ℕ) (ds : List Float) (o₀ : List ℕ) (v₀ : List Float) → NotesRoom ks ds o₀ v₀ → Listing ks ds o₀ o₀ v₀ v₀ 0 0
listing_start ks ds o₀ v₀ r = record {
  room = r;
  numbers = fill_start_front _ _ o₀ (length_note_objects ks) (omega (arith, notes-few ks, r.objects_room));
  floats = fill_start_front _ _ v₀ (length_of_notes ks ds r.whole) (omega (arith, notes-few ks, r.values_room));
  numbers_left = objects_all ks;
  floats_left = refl;
  behind = omega arith;
}

module _ {ks : List ℕ} {ds : List Float} {o₀ o : List ℕ} {v₀ v : List Float} {j i : ℕ} (x : Listing ks ds o₀ o v₀ v j i) where
  pub listing_note : i < length ks → is_note (get_or ks i 0) ≡ true → Listing ks ds o₀ (set o j i) v₀ (set v j (get_or ds i nan)) (j + 1) (i + 1)
  listing_note h e =
      let a : Onward _ _ 0 o₀ o j i (notes_from (i + 1) (drop (i + 1) ks)) = fill_next x.numbers (x.numbers_left ∙ objects-step ks i true h e) in
      let b : Onward _ _ 0 v₀ v j (get_or ds i nan) (of_notes (drop (i + 1) ks) (drop (i + 1) ds)) =
      fill_next x.floats (x.floats_left ∙ of_notes-step ks i true ds h x.room.whole e) in
      record {
        room = x.room;
        numbers = rw (zero-add j) at a.fill;
        floats = rw (zero-add j) at b.fill;
        numbers_left = a.left;
        floats_left = b.left;
        behind = omega arith;
      }

  pub listing_pass : i < length ks → is_note (get_or ks i 0) ≡ false → Listing ks ds o₀ o v₀ v j (i + 1)
  listing_pass h e = record {
    room = x.room;
    numbers = x.numbers;
    floats = x.floats;
    numbers_left = x.numbers_left ∙ objects-step ks i false h e;
    floats_left = x.floats_left ∙ of_notes-step ks i false ds h x.room.whole e;
    behind = omega arith;
  }

  pub listing_end : length ks ≤ i → NotesListed ks ds o₀ o v₀ v j
  listing_end h =
      let l : length (drop j (note_objects ks)) ≡ 0 = ap length (x.numbers_left ∙ objects-over ks i h) in
      let k : j ≡ length (notes ks) = omega (arith, length-drop j (note_objects ks), x.numbers.size, x.numbers.upto) in
      record {
        numbers = fill_end_front x.numbers (omega arith);
        floats = fill_end_front x.floats (omega arith);
        count = omega (arith, length_note_objects ks);
      }
