-- The pairs and the groups of notes that are known by their objects: each object of a note is one of the chart's, so that its range is there, and the marks
-- that the pass leaves are the definition's.
use mathlib.Core.Path.{◌≡◌, refl, sym, ap, ◌∙◌}
use mathlib.Core.Bool.{Bool, true, false, cond}
use mathlib.Core.List.{List}
use Prim.Native.Nat.{ℕ, ◌+◌, ◌-◌, ◌≤◌, ◌<◌}
use native.Mathlib.Omega.{arith}
use borrow.Author.Tests.{lt-ltb, le-ltb}
use lib.ListN.{length, get_or}
use lib.Ieee.{Float}
use Rattle.std.specs.Prelude.{None, Some}
use Rattle.std.proofs.lemmas.List.{get_or_default}
use Rattle.lent.specs.Over.{over}
use Rattle.lent.proofs.PieceLaws.{over_whole, get_or-over}
use Rattle.grouping_marks.specs.Marks.{group_count, group_numbers}
use Rattle.grouping_marks.proofs.MarksLaws.{length-numbers, count_none}
use Rattle.grouping_marks.proofs.NumberLaws.{number_last}
use Rattle.grouping_chart.specs.Object.{notes}
use Rattle.grouping_chart.proofs.ObjectLaws.{notes-few}
use Rattle.grouping_interval.specs.Notes.{note_objects}
use Rattle.grouping_interval.specs.IntervalGrouping.{class_marks}
use Rattle.grouping_interval.specs.LookedAt.{looked_at, among}
use Rattle.grouping_interval.proofs.NoteLaws.{length_note_objects, object-below, note_idx_object}
use Rattle.grouping_interval.proofs.IntervalLaws.{length_class_marks}
use Rattle.call_rhythm.specs.Rhythm.{per_note}
use Rattle.call_rhythm.proofs.PerNoteLaws.{length_per_note, per_note_at}
use Rattle.call_taps.specs.Taps.{TapChart, tap_size, class_of, tap_marks, is_open, class_at, pairs_of, tap_groups_of, tap_groups_in}
use Rattle.call_taps.specs.Call.{known_groups}
use Rattle.call_taps.specs.passes.Rooms.{NotesKnown}

-- ---- how many groups numbers tell

pub counted_none : {numbers : List ℕ} (marks : List ℕ) → numbers ≡ group_numbers marks → length numbers ≡ 0 → 0 ≡ group_count marks
counted_none marks e h = sym (count_none marks (sym (length-numbers marks) ∙ ap length (sym e) ∙ h))

pub counted_last : {numbers : List ℕ} {last : ℕ} (marks : List ℕ) → numbers ≡ group_numbers marks → (length numbers ≡ 0 → ⊥)
    → last ≡ get_or numbers (length numbers - 1) 0 → last + 1 ≡ group_count marks
counted_last {numbers} marks e h f =
    let i : ℕ = length numbers - 1 in
    rw (f, ap (λ l. get_or l i 0) e) (number_last marks i (omega (arith, length-numbers marks, ap length e)))

-- ---- the objects of notes

module _ {t : TapChart} {objects : List ℕ} (k : NotesKnown t objects) where
  pub objects_long : length objects ≡ length (notes t.kinds)
  objects_long = ap length k.listed ∙ length_note_objects t.kinds

  pub objects_few : length objects ≤ tap_size t
  objects_few = omega (arith, objects_long, notes-few t.kinds)

  pub object_inside : (j : ℕ) → j < length objects → get_or objects j 0 < tap_size t
  object_inside j h = rw k.listed (object-below t.kinds j (omega (arith, ap length k.listed)))

  -- each has both ends of a range
  pub low_there : (z j : ℕ) → j < length objects → get_or objects j z < length t.lowest
  low_there z j h = rw (get_or_default objects j z 0 h) (omega (arith, object_inside j h, k.long.lowest))

  pub high_there : (z j : ℕ) → j < length objects → get_or objects j z < length t.highest
  high_there z j h = rw (get_or_default objects j z 0 h) (omega (arith, object_inside j h, k.long.highest))

  -- and a place in every slice that has one for each object
  pub place_there : {A : Type 0} (slice : List A) → tap_size t ≤ length slice → (z j : ℕ) → j < length objects → get_or objects j z < length slice
  place_there slice r z j h = rw (get_or_default objects j z 0 h) (omega (arith, object_inside j h))

  pub note_there : (j : ℕ) → j < length (notes t.kinds) → j < length objects
  note_there j h = omega (arith, objects_long)

  -- ---- the class of a note and the next

  module _ (margin : Float) where
    pub pair_next : (j : ℕ) → j + 1 < length objects → class_of margin t (get_or objects j 0) (get_or objects (j + 1) 0) ≡ class_at margin t j
    unfolding class_at
    pair_next j h = rw (← k.listed, lt-ltb (j + 1) (length (notes t.kinds)) (omega (arith, objects_long)))

    pub pair_last : (j : ℕ) → length objects ≤ j + 1 → 255 ≡ class_at margin t j
    unfolding class_at
    pair_last j h = rw (le-ltb (j + 1) (length (notes t.kinds)) (omega (arith, objects_long)))

    -- what is filled in at a note's object is the class of it and the next
    pub pair_told : (pair₀ : List ℕ) {pair : List ℕ} → tap_size t ≤ length pair₀ → pair ≡ over (pairs_of margin t) pair₀ → (z j : ℕ) → j + 1 < length objects
        → get_or pair (get_or objects j z) 0 ≡ class_of margin t (get_or objects j z) (get_or objects (j + 1) z)
    unfolding pairs_of
    pair_told pair₀ r filled z j h =
        let o : ℕ = get_or objects j 0 in
        let inside : o < tap_size t = object_inside j (omega arith) in
        let e : o ≡ get_or (note_objects t.kinds) j 0 = ap (λ l. get_or l j 0) k.listed in
        let n = note_idx_object t.kinds j (omega (arith, ap length k.listed)) in
        rw (filled, get_or_default objects j z 0 (omega arith), get_or_default objects (j + 1) z 0 h)
        (get_or-over (per_note 255 (class_at margin t) t.kinds) pair₀ o 0 (omega (arith, length_per_note 255 (class_at margin t) t.kinds))
        ∙ per_note_at 255 (class_at margin t) t.kinds o 0 inside
        ∙ rw (e, n.0, n.1) (rw e at (sym (pair_next j h))))

    -- ---- whether the groups are known

    pub open_is : {found : Bool} → found ≡ among 3 (looked_at (class_of margin t) objects) → found ≡ is_open margin t
    unfolding is_open
    open_is e = rw k.listed at e

    module _ (group₀ : List ℕ) where
      pub groups_open : is_open margin t ≡ true
          → (None ≡ known_groups margin t) × (group₀ ≡ cond (is_open margin t) group₀ (over (tap_groups_of margin t) group₀))
      groups_open e = rw e (refl, refl)

      pub groups_sure : {n : ℕ} {group : List ℕ} → is_open margin t ≡ false → n ≡ tap_groups_in margin t → group ≡ over (tap_groups_of margin t) group₀
          → (Some n ≡ known_groups margin t) × (group ≡ cond (is_open margin t) group₀ (over (tap_groups_of margin t) group₀))
      groups_sure e f g = rw e (ap Some f, g)

    -- ---- the marks, the numbers and how many groups there are

    -- they fill a slice of a place for each note
    pub marks_are : (marks₀ : List ℕ) → length marks₀ ≡ length objects → over (class_marks (class_of margin t) objects) marks₀ ≡ tap_marks margin t
    unfolding tap_marks
    marks_are marks₀ m =
        over_whole (class_marks (class_of margin t) objects) marks₀ (length_class_marks (class_of margin t) objects ∙ sym m)
        ∙ ap (class_marks (class_of margin t)) k.listed

    pub marks_long : length (tap_marks margin t) ≡ length objects
    unfolding tap_marks
    marks_long = length_class_marks (class_of margin t) (note_objects t.kinds) ∙ ap length (sym k.listed)

    -- a number for each note
    pub numbers_long : length (group_numbers (tap_marks margin t)) ≡ length objects
    numbers_long = length-numbers (tap_marks margin t) ∙ marks_long

    pub groups_none : length (group_numbers (tap_marks margin t)) ≡ 0 → 0 ≡ tap_groups_in margin t
    unfolding tap_groups_in
    groups_none e = sym (count_none (tap_marks margin t) (sym (length-numbers (tap_marks margin t)) ∙ e))

    -- the number of groups, and each note's, are the definition's
    pub groups_in : {n : ℕ} → n ≡ group_count (tap_marks margin t) → n ≡ tap_groups_in margin t
    unfolding tap_groups_in
    groups_in e = e

    pub groups_of : {group : List ℕ} (group₀ : List ℕ) → group ≡ over (per_note 65535 (λ j. get_or (group_numbers (tap_marks margin t)) j 0) t.kinds) group₀
        → group ≡ over (tap_groups_of margin t) group₀
    unfolding tap_groups_of
    groups_of group₀ e = e
