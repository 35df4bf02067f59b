-- The loop's invariant: the objects before this one have their note_idx, and `next` counts the notes among them.
use Rattle.call_turns.proofs.NumberLaws.{Numbering}
use Rattle.call_turns.proofs.number_notes.Given as goal

abbrev pub invariant-loop-i : goal.invariant-loop-i
invariant-loop-i l = Numbering l.fn.kind l.fn.numbers l.numbers l.next.0 l.i
