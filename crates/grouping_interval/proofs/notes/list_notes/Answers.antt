-- A note is listed, and another object is passed over.
use Rattle.std.proofs.Common.{sym, ◌∙◌}
use Rattle.grouping_interval.proofs.ListLaws.{listing_note, listing_pass, listing_end}
use Rattle.grouping_interval.proofs.notes.list_notes.Goals as goal
use Rattle.grouping_interval.proofs.notes.list_notes.Goals.{then-is_note, else-is_note}

pub loop-i-preserved : goal.loop-i-preserved
loop-i-preserved c =
    elim c.if-is_note.branch [
      | then-is_note w ↦
          rw (w.objects-is, w.values-is, w.note-is) (listing_note c.loop-i.invariant c.loop-i-test.true (sym c.is_note.ensures ∙ w.if-is_note.true))
      | else-is_note w ↦
          rw (w.objects-is, w.values-is, w.note-is) (listing_pass c.loop-i.invariant c.loop-i-test.true (sym c.is_note.ensures ∙ w.if-is_note.false))
    ]

pub returns : goal.returns
returns c = listing_end c.loop-i.invariant c.loop-i-test.false
