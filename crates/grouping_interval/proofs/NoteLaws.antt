-- A chart's notes as the numbers of their objects and as their deltas: how many there are, where they stand, and both lists from object i on, one object at a
-- time.
use mathlib.Core.Path.{◌≡◌, refl, ap, ◌∙◌}
use mathlib.Core.Bool.{Bool, true, false, cond}
use mathlib.Core.List.{List, [], ◌∷◌, ◌++◌}
use Prim.Native.Nat.{ℕ, zero, suc, ◌+◌, ◌≤◌, ◌<◌}
use native.Mathlib.Numerals.{add-one}
use native.Mathlib.Omega.{arith}
use lib.ListN.{length, take, drop, get_or, drop_of_length-le}
use lib.Seq.{drop-cons}
use lib.Ieee.{Float, nan}
use Rattle.grouping_chart.specs.Object.{is_note, notes, note_idx}
use Rattle.grouping_chart.proofs.NotesLaws.{notes_none, notes_first}
use Rattle.grouping_chart.proofs.CutLaws.{note_number}
use Rattle.grouping_interval.specs.Notes.{notes_from, note_objects, of_notes}

-- ---- as many as there are notes

length_from : (a : ℕ) (ks : List ℕ) → length (notes_from a ks) ≡ length (notes ks)
unfolding notes_from
length_from a [] = rw notes_none
length_from a (k ∷ ks) = rw notes_first (by (is_note k) (length_from (a + 1) ks))
  where
    by : (b : Bool) → length (notes_from (a + 1) ks) ≡ length (notes ks)
        → length (cond b (a ∷ notes_from (a + 1) ks) (notes_from (a + 1) ks)) ≡ length (cond b (k ∷ notes ks) (notes ks))
    by true u = ap suc u
    by false u = u

pub length_note_objects : (ks : List ℕ) → length (note_objects ks) ≡ length (notes ks)
unfolding note_objects
length_note_objects ks = length_from 0 ks

pub length_of_notes : (ks : List ℕ) (ds : List Float) → length ds ≡ length ks → length (of_notes ks ds) ≡ length (notes ks)
unfolding of_notes
length_of_notes [] ds e = rw notes_none
length_of_notes (k ∷ ks) [] e = absurd (omega arith)
length_of_notes (k ∷ ks) (d ∷ ds) e = rw notes_first (by (is_note k) (length_of_notes ks ds (omega arith)))
  where
    by : (b : Bool) → length (of_notes ks ds) ≡ length (notes ks)
        → length (cond b (d ∷ of_notes ks ds) (of_notes ks ds)) ≡ length (cond b (k ∷ notes ks) (notes ks))
    by true u = ap suc u
    by false u = u

-- ---- where they stand

below_from : (a : ℕ) (ks : List ℕ) (j : ℕ) → j < length (notes_from a ks) → get_or (notes_from a ks) j 0 < a + length ks
unfolding notes_from
below_from a [] j h = absurd (omega arith)
below_from a (k ∷ ks) j h = by (is_note k) j (below_from (a + 1) ks) h
  where
    by : (b : Bool) (j : ℕ) → ((j : ℕ) → j < length (notes_from (a + 1) ks) → get_or (notes_from (a + 1) ks) j 0 < a + 1 + length ks)
        → j < length (cond b (a ∷ notes_from (a + 1) ks) (notes_from (a + 1) ks))
        → get_or (cond b (a ∷ notes_from (a + 1) ks) (notes_from (a + 1) ks)) j 0 < a + suc (length ks)
    by true zero u h = omega arith
    by true (suc j) u h = omega (arith, u j (omega arith))
    by false j u h = omega (arith, u j h)

-- a note is one of the objects
pub object-below : (ks : List ℕ) (j : ℕ) → j < length (note_objects ks) → get_or (note_objects ks) j 0 < length ks
unfolding note_objects
object-below ks j h = omega (arith, below_from 0 ks j h)

-- object i is the note numbered by how many notes stand before it, where the kinds begin at object a
record NumberOf (a : ℕ) (ks : List ℕ) (i : ℕ) : Type 0 where
  within : length (notes (take i ks)) < length (notes_from a ks)
  object : get_or (notes_from a ks) (length (notes (take i ks))) 0 ≡ a + i

number_of : (a : ℕ) (ks : List ℕ) (i : ℕ) → i < length ks → is_note (get_or ks i 0) ≡ true → NumberOf a ks i
unfolding notes_from
number_of a [] i h n = absurd (omega arith)
number_of a (k ∷ ks) zero h n = record { within = rw (notes_none, n) (omega arith); object = rw (notes_none, n) (omega arith) }
number_of a (k ∷ ks) (suc i) h n =
    let u : NumberOf (a + 1) ks i = number_of (a + 1) ks i (omega arith) n in
    record { within = rw notes_first (within_by (is_note k) u.within); object = rw notes_first (object_by (is_note k) u.object) }
  where
    within_by : (b : Bool) → length (notes (take i ks)) < length (notes_from (a + 1) ks)
        → length (cond b (k ∷ notes (take i ks)) (notes (take i ks))) < length (cond b (a ∷ notes_from (a + 1) ks) (notes_from (a + 1) ks))
    within_by true u = omega arith
    within_by false u = u

    object_by : (b : Bool) → get_or (notes_from (a + 1) ks) (length (notes (take i ks))) 0 ≡ a + 1 + i
        → get_or (cond b (a ∷ notes_from (a + 1) ks) (notes_from (a + 1) ks)) (length (cond b (k ∷ notes (take i ks)) (notes (take i ks)))) 0 ≡ a + suc i
    object_by true u = omega arith
    object_by false u = omega arith

module _ (ks : List ℕ) (i : ℕ) (h : i < length ks) (n : is_note (get_or ks i 0) ≡ true) where
  pub note_within : note_idx ks i < length (note_objects ks)
  unfolding note_objects
  note_within = rw (note_number ks i n) (number_of 0 ks i h n).within

-- ---- note number j is an object of which j notes stand before it

record NoteAt (a : ℕ) (ks : List ℕ) (j : ℕ) : Type 0 where
  place : ℕ
  object : get_or (notes_from a ks) j 0 ≡ a + place
  within : place < length ks
  note : is_note (get_or ks place 0) ≡ true
  number : length (notes (take place ks)) ≡ j

note_at : (a : ℕ) (ks : List ℕ) (j : ℕ) → j < length (notes_from a ks) → NoteAt a ks j
unfolding notes_from
note_at a [] j h = absurd (omega arith)
note_at a (k ∷ ks) j h = by (is_note k) refl j (λ n l. note_at (a + 1) ks n l) h
  where
    -- one object further on, with as many notes more as this one is
    counted : (b : Bool) (ns : List ℕ) → length (cond b (k ∷ ns) ns) ≡ cond b (suc (length ns)) (length ns)
    counted true ns = refl
    counted false ns = refl

    later : (b : Bool) → is_note k ≡ b → {j n : ℕ} → NoteAt (a + 1) ks j → cond b (suc j) j ≡ n
        → get_or (cond b (a ∷ notes_from (a + 1) ks) (notes_from (a + 1) ks)) n 0 ≡ get_or (notes_from (a + 1) ks) j 0
        → get_or (notes_from a (k ∷ ks)) n 0 ≡ get_or (cond b (a ∷ notes_from (a + 1) ks) (notes_from (a + 1) ks)) n 0 → NoteAt a (k ∷ ks) n
    later b e u q o p = record {
      place = suc u.place;
      object = p ∙ o ∙ u.object ∙ omega arith;
      within = omega (arith, u.within);
      note = u.note;
      number = rw (notes_first, e, counted b (notes (take u.place ks)), u.number) q;
    }

    by : (b : Bool) → is_note k ≡ b → (j : ℕ) → ((n : ℕ) → n < length (notes_from (a + 1) ks) → NoteAt (a + 1) ks n)
        → j < length (cond (is_note k) (a ∷ notes_from (a + 1) ks) (notes_from (a + 1) ks)) → NoteAt a (k ∷ ks) j
    by true e zero u h = record { place = 0; object = rw e (omega arith); within = omega arith; note = e; number = rw notes_none refl }
    by true e (suc j) u h = later true e (u j (omega (arith, rw e at h))) refl refl (rw e refl)
    by false e j u h = later false e (u j (rw e at h)) refl refl (rw e refl)

pub note_idx_object : (ks : List ℕ) (j : ℕ) → j < length (note_objects ks)
    → (is_note (get_or ks (get_or (note_objects ks) j 0) 0) ≡ true) × (note_idx ks (get_or (note_objects ks) j 0) ≡ j)
unfolding note_objects
note_idx_object ks j h =
    let u : NoteAt 0 ks j = note_at 0 ks j h in
    let o : get_or (notes_from 0 ks) j 0 ≡ u.place = u.object ∙ omega arith in
    rw o (u.note, note_number ks u.place u.note ∙ u.number)

-- ---- each note's delta is that of its object

delta_from : (f : ℕ → Float) (a : ℕ) (ks : List ℕ) (ds : List Float) → length ds ≡ length ks → ((i : ℕ) → get_or ds i nan ≡ f (a + i))
    → (j : ℕ) → j < length (notes_from a ks) → get_or (of_notes ks ds) j nan ≡ f (get_or (notes_from a ks) j 0)
unfolding notes_from of_notes
delta_from f a [] ds e g j h = absurd (omega arith)
delta_from f a (k ∷ ks) [] e g j h = absurd (omega arith)
delta_from f a (k ∷ ks) (d ∷ ds) e g j h = by (is_note k) j (delta_from f (a + 1) ks ds (omega arith) onward) h
  where
    onward : (i : ℕ) → get_or ds i nan ≡ f (a + 1 + i)
    onward i = g (suc i) ∙ ap f (omega arith)

    here : d ≡ f a
    here = g 0 ∙ ap f (omega arith)

    by : (b : Bool) (j : ℕ) → ((j : ℕ) → j < length (notes_from (a + 1) ks) → get_or (of_notes ks ds) j nan ≡ f (get_or (notes_from (a + 1) ks) j 0))
        → j < length (cond b (a ∷ notes_from (a + 1) ks) (notes_from (a + 1) ks))
        → get_or (cond b (d ∷ of_notes ks ds) (of_notes ks ds)) j nan ≡ f (get_or (cond b (a ∷ notes_from (a + 1) ks) (notes_from (a + 1) ks)) j 0)
    by true zero u h = here
    by true (suc j) u h = u j (omega arith)
    by false j u h = u j h

pub of_notes_at : (ks : List ℕ) (ds : List Float) → length ds ≡ length ks → (j : ℕ) → j < length (note_objects ks)
    → get_or (of_notes ks ds) j nan ≡ get_or ds (get_or (note_objects ks) j 0) nan
unfolding note_objects
of_notes_at ks ds e j h = delta_from (λ (i : ℕ). get_or ds i nan) 0 ks ds e (λ i. ap (λ (n : ℕ). get_or ds n nan) (omega arith)) j h

-- what holds of each delta holds of each note's
pub of_notes_all : (P : Float → Type 0) (ks : List ℕ) (ds : List Float) → ((i : ℕ) → i < length ds → P (get_or ds i nan))
    → (j : ℕ) → j < length (of_notes ks ds) → P (get_or (of_notes ks ds) j nan)
unfolding of_notes
of_notes_all P [] ds g j h = absurd (omega arith)
of_notes_all P (k ∷ ks) [] g j h = absurd (omega arith)
of_notes_all P (k ∷ ks) (d ∷ ds) g j h = by (is_note k) j (of_notes_all P ks ds (λ i l. g (suc i) (omega arith))) h
  where
    by : (b : Bool) (j : ℕ) → ((j : ℕ) → j < length (of_notes ks ds) → P (get_or (of_notes ks ds) j nan))
        → j < length (cond b (d ∷ of_notes ks ds) (of_notes ks ds)) → P (get_or (cond b (d ∷ of_notes ks ds) (of_notes ks ds)) j nan)
    by true zero u h = g 0 (omega arith)
    by true (suc j) u h = u j (omega arith)
    by false j u h = u j h

-- where all objects are notes nothing is left out
pub of_notes-alone : (ks : List ℕ) (ds : List Float) → length ds ≡ length ks → ((i : ℕ) → i < length ks → is_note (get_or ks i 0) ≡ true) → of_notes ks ds ≡ ds
unfolding of_notes
of_notes-alone [] [] e g = refl
of_notes-alone [] (d ∷ ds) e g = absurd (omega arith)
of_notes-alone (k ∷ ks) [] e g = absurd (omega arith)
of_notes-alone (k ∷ ks) (d ∷ ds) e g = rw (g 0 (omega arith), of_notes-alone ks ds (omega arith) (λ i h. g (suc i) (omega arith)))

-- ---- both lists from object i on

pub objects_all : (ks : List ℕ) → note_objects ks ≡ notes_from 0 ks
unfolding note_objects
objects_all ks = refl

module _ (ks : List ℕ) (i : ℕ) where
  -- object i is one of them if it is a note
  pub objects-step : (b : Bool) → i < length ks → is_note (get_or ks i 0) ≡ b
      → notes_from i (drop i ks) ≡ cond b (i ∷ notes_from (i + 1) (drop (i + 1) ks)) (notes_from (i + 1) (drop (i + 1) ks))
  unfolding notes_from
  objects-step b h e = rw (drop-cons ks i 0 h, e, add-one i)

  pub of_notes-step : (b : Bool) (ds : List Float) → i < length ks → length ds ≡ length ks → is_note (get_or ks i 0) ≡ b
      → of_notes (drop i ks) (drop i ds) ≡ cond b (get_or ds i nan ∷ of_notes (drop (i + 1) ks) (drop (i + 1) ds))
      (of_notes (drop (i + 1) ks) (drop (i + 1) ds))
  unfolding of_notes
  of_notes-step b ds h l e = rw (drop-cons ks i 0 h, drop-cons ds i nan (omega arith), e, add-one i)

  -- none is left at the end
  pub objects-over : length ks ≤ i → notes_from i (drop i ks) ≡ []
  unfolding notes_from
  objects-over h = rw (drop_of_length-le ks h)

  pub of_notes-over : (ds : List Float) → length ks ≤ i → of_notes (drop i ks) (drop i ds) ≡ []
  unfolding of_notes
  of_notes-over ds h = rw (drop_of_length-le ks h)

-- ---- a chart cut in two

pub of_notes-append : (ks ks' : List ℕ) (ds ds' : List Float) → length ds ≡ length ks → of_notes (ks ++ ks') (ds ++ ds') ≡ of_notes ks ds ++ of_notes ks' ds'
unfolding of_notes
of_notes-append [] ks' [] ds' e = refl
of_notes-append [] ks' (d ∷ ds) ds' e = absurd (omega arith)
of_notes-append (k ∷ ks) ks' [] ds' e = absurd (omega arith)
of_notes-append (k ∷ ks) ks' (d ∷ ds) ds' e = by (is_note k) (of_notes-append ks ks' ds ds' (omega arith))
  where
    by : (b : Bool) → of_notes (ks ++ ks') (ds ++ ds') ≡ of_notes ks ds ++ of_notes ks' ds'
        → cond b (d ∷ of_notes (ks ++ ks') (ds ++ ds')) (of_notes (ks ++ ks') (ds ++ ds')) ≡ cond b (d ∷ of_notes ks ds) (of_notes ks ds) ++ of_notes ks' ds'
    by true u = rw u
    by false u = u
