-- A turn goes on with the open group or opens the next; the last one's first item is stored behind the loop.
use Rattle.grouping_marks.proofs.PassLaws.{firsts_turn}
use Rattle.grouping_marks.proofs.group_firsts.Goals as goal

pub loop-i-preserved : goal.loop-i-preserved
loop-i-preserved c = firsts_turn c.loop-i.invariant _ _ c.loop-i-test.true c.by_mark-first.ensures c.opens-groups.ensures
