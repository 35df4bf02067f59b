-- The replay begins with nothing counted, each turn counts one case more, and at the end none may follow.
use Rattle.replay_read.proofs.ReadLaws.{counted_none, counted-more}
use Rattle.replay_read.proofs.replay_all.Goals as goal

pub loop-r-init : goal.loop-r-init
loop-r-init c = counted_none c.start-r.ensures

pub loop-r-preserved : goal.loop-r-preserved
loop-r-preserved c = counted-more c.loop-r.invariant c.next_case-c.ensures c.after-r.ensures
