-- The front that is filled is what exists of the front of the own intervals.
use Rattle.evaluator_rhythm.proofs.WalkLaws.{FrontExists}
use Rattle.evaluator_rhythm.proofs.newest.Given as goal

abbrev pub invariant-loop-i : goal.invariant-loop-i
invariant-loop-i g l = FrontExists l.owns l.found l.i g.row.K
