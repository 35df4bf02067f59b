-- The loop's invariant: the replay stands after the cases read so far, and the array has the last chart's body. Each turn leaves fewer cases.
use Rattle.replay_read.specs.Read.{Counted}
use Rattle.replay_read.proofs.replay_all.Given as goal

abbrev pub invariant-loop-r : goal.invariant-loop-r
invariant-loop-r l = Counted l.call l.r l.body

abbrev pub decreases-loop-r : goal.decreases-loop-r
decreases-loop-r l = l.r.left
