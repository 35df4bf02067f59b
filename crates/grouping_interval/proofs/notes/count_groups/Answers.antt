-- A note is counted, and another object is passed over.
use Rattle.std.proofs.Common.{sym, ◌∙◌}
use Rattle.grouping_interval.proofs.CountLaws.{note_first, note_further, counts_note, counts_pass}
use Rattle.grouping_interval.proofs.notes.count_groups.Goals as goal
use Rattle.grouping_interval.proofs.notes.count_groups.Goals.{then-is_note+in-None, then-is_note+in-Some, else-is_note}

pub loop-i-preserved : goal.loop-i-preserved
loop-i-preserved c =
    elim c.if-is_note.branch [
      | then-is_note+in-None w ↦
          rw w.counting-is
          (counts_note c.loop-i.invariant _ c.loop-i-test.true (sym c.is_note.ensures ∙ w.if-is_note.true) (note_first _ _ w.in-None.is w.first.ensures))
      | then-is_note+in-Some w ↦
          rw w.counting-is
          (counts_note c.loop-i.invariant _ c.loop-i-test.true (sym c.is_note.ensures ∙ w.if-is_note.true)
          (note_further _ _ w.in-Some.is w.further.ensures))
      | else-is_note w ↦ rw w.counting-is (counts_pass c.loop-i.invariant c.loop-i-test.true (sym c.is_note.ensures ∙ w.if-is_note.false))
    ]
