-- The first that does not pass is told with its place.
use Rattle.grouping_chart.proofs.RefusalLaws.{next_refused}
use Rattle.std.proofs.Common.{sym, ◌∙◌}
use Rattle.grouping_chart.proofs.refusal.first_refused.Goals as goal

pub returns-in-Err : goal.returns-in-Err
returns-in-Err g c checks gives =
    let i = c.loop-i.i in
    next_refused checks i _ c.loop-i-test.true (c.loop-i.invariant checks gives)
    (sym c.in-Err.is ∙ gives i _ c.loop-i-test.true c.test.ensures)
