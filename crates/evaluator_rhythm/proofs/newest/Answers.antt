-- The first that is absent leaves none, and else all are there.
use Rattle.std.proofs.Common.{◌∙◌}
use Rattle.evaluator_rhythm.proofs.WalkLaws.{absent, none_filled, one_filled}
use Rattle.evaluator_rhythm.proofs.newest.Goals as goal

pub loop-i-init : goal.loop-i-init
loop-i-init g c = none_filled c.args.owns g.row.K _

pub returns-in_err-found : goal.returns-in_err-found
returns-in_err-found g c = c.from_residual.ensures ∙ absent g.row.K c.loop-i.i c.args.owns c.loop-i-test.true c.in_err-found.was

pub loop-i-preserved : goal.loop-i-preserved
loop-i-preserved g c = one_filled c.args.owns c.loop-i.invariant c.loop-i-test.true c.in_ok-found.was
