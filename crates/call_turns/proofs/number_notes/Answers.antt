-- A turn numbers one object and counts it where it is a note.
use Rattle.std.proofs.Common.{arith}
use Rattle.call_turns.proofs.NumberLaws.{numbering_start, next_few, index_few, numbering_turn, numbering_end, counted_few}
use Rattle.call_turns.proofs.number_notes.Goals as goal

pub loop-i-init : goal.loop-i-init
loop-i-init c = numbering_start _ _ c.requires.room

pub overflow_cast-numbers : goal.overflow_cast-numbers
overflow_cast-numbers c = omega (arith, index_few c.loop-i.invariant _ c.loop-i-test.true c.note_index.ensures, c.loop-i-test.true, c.requires.few)

pub note_after-next-requires : goal.note_after-next-requires
note_after-next-requires c = omega (arith, next_few c.loop-i.invariant c.loop-i-test.true, c.loop-i-test.true, c.requires.few)

pub loop-i-preserved : goal.loop-i-preserved
loop-i-preserved c = numbering_turn c.loop-i.invariant _ _ c.loop-i-test.true c.note_index.ensures c.note_after-next.ensures

pub overflow_cast-result : goal.overflow_cast-result
overflow_cast-result c = omega (arith, counted_few c.loop-i.invariant c.loop-i-test.false, c.requires.few)

pub returns-clause-count : goal.returns-clause-count
returns-clause-count c = (numbering_end c.loop-i.invariant c.loop-i-test.false).0

pub returns-clause-numbers : goal.returns-clause-numbers
returns-clause-numbers c = (numbering_end c.loop-i.invariant c.loop-i-test.false).1
