-- Two charts whose last m objects are alike in kind and delta: their notes' deltas end alike too, and objects of the tail that are counterparts are so as
-- notes.
use mathlib.Core.Path.{◌≡◌, sym, ap, ◌∙◌}
use mathlib.Core.Bool.{true}
use mathlib.Core.List.{List, ◌++◌}
use Prim.Native.Nat.{ℕ, ◌+◌, ◌-◌, ◌≤◌, ◌<◌}
use native.Mathlib.Omega.{arith}
use lib.ListN.{length, take, drop, get_or, length-append, length-drop, take-append-drop}
use lib.Seq.{length-take-le, drop_at}
use lib.Ieee.{Float}
use Rattle.grouping_chart.specs.Object.{is_note, notes, note_idx}
use Rattle.grouping_chart.specs.Chart.{Chart, size}
use Rattle.grouping_interval.specs.Notes.{of_notes}
use Rattle.grouping_interval.proofs.NoteLaws.{length_of_notes, of_notes-append}
use Rattle.grouping_chart.proofs.CutLaws.{notes_split, note_number}
use Rattle.agreement.specs.CommonTail.{Counterparts, last_of, SameLast}
use Rattle.agreement.specs.rhythm.Claim.{deltas_of, note_count, tail_notes, SameNote}
use Rattle.agreement.proofs.TailLaws.{same_behind, same_at}

-- ---- a chart's notes' deltas end in those of its last m objects

module _ (m : ℕ) (c : Chart) (whole : length c.deltas ≡ size c) (fits : m ≤ size c) where
  front : List Float
  front = of_notes (take (size c - m) c.kinds) (take (length c.deltas - m) c.deltas)

  abbrev back : List Float
  back = of_notes (last_of m c.kinds) (last_of m c.deltas)

  deltas-cut : deltas_of c ≡ front ++ back
  unfolding front
  deltas-cut =
      sym (λ i. of_notes (take-append-drop (size c - m) c.kinds i) (take-append-drop (length c.deltas - m) c.deltas i))
      ∙ of_notes-append (take (size c - m) c.kinds) (last_of m c.kinds) (take (length c.deltas - m) c.deltas) (last_of m c.deltas)
      (omega (arith, length-take-le (size c - m) c.kinds (omega arith), length-take-le (length c.deltas - m) c.deltas (omega arith)))

  back_long : length back ≡ tail_notes m c
  back_long =
      length_of_notes (last_of m c.kinds) (last_of m c.deltas)
      (omega (arith, length-drop (size c - m) c.kinds, length-drop (length c.deltas - m) c.deltas))

  notes_fit : tail_notes m c ≤ note_count c
  notes_fit = omega (arith, ap length deltas-cut, length-append front back, back_long)

  notes_last : last_of (tail_notes m c) (deltas_of c) ≡ back
  notes_last =
      let n : ℕ = note_count c - tail_notes m c in
      ap (drop n) deltas-cut ∙ drop_at front back n (omega (arith, ap length deltas-cut, length-append front back, back_long))

-- ---- two charts

module _ (c c' : Chart) {m : ℕ} (whole : length c.deltas ≡ size c) (whole' : length c'.deltas ≡ size c')
    (k : SameLast m c.kinds c'.kinds) (d : SameLast m c.deltas c'.deltas) where
  pub same_count : tail_notes m c ≡ tail_notes m c'
  same_count = rw k.alike

  pub notes-alike : SameLast (tail_notes m c) (deltas_of c) (deltas_of c')
  notes-alike = record {
    inside = notes_fit m c whole k.inside;
    inside' = omega (arith, same_count, notes_fit m c' whole' k.inside');
    alike = rw (notes_last m c whole k.inside, same_count, notes_last m c' whole' k.inside') (λ i. of_notes (k.alike i) (d.alike i));
  }

  module _ (o o' : ℕ) (h : size c ≤ o + m) (l : o < size c) (e : Counterparts (size c) (size c') o o') where
    same_kind : is_note (get_or c.kinds o 0) ≡ is_note (get_or c'.kinds o' 0)
    same_kind = ap is_note (same_at k o o' h e 0)

    note_counterparts : is_note (get_or c.kinds o 0) ≡ true → Counterparts (note_count c) (note_count c') (note_idx c.kinds o) (note_idx c'.kinds o')
    note_counterparts n =
        omega (
          arith,
          note_number c.kinds o n,
          note_number c'.kinds o' (sym same_kind ∙ n),
          length_of_notes c.kinds c.deltas whole,
          length_of_notes c'.kinds c'.deltas whole',
          notes_split c.kinds o,
          notes_split c'.kinds o',
          ap (λ (ks : List ℕ). length (notes ks)) (same_behind k o o' h e),
        )

    pub same_note : SameNote c o c' o'
    same_note = record { both = same_kind; counterparts = note_counterparts }
