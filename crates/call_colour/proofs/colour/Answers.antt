-- `colour` meets its contract: the verdict of the definition is the one that the tests gave, and each case leaves its outcome.
use Rattle.std.proofs.Common.{rules}
use Rattle.grouping_chart.specs.Lent.{seen}
use Rattle.grouping_chart.proofs.OutcomeLaws.{judged-told, answered-refused}
use Rattle.call_colour.specs.Call.{colour_outcome}
use Rattle.call_colour.proofs.CallLaws.{chart_room, colour-done}
use Rattle.call_colour.proofs.colour.Goals as goal

pub returns-in_err-judge : goal.returns-in_err-judge
unfolding colour_outcome
returns-in_err-judge c = answered-refused _ _ _ (judged-told _ _ _ _ _ c.judge.ensures c.in_err-judge.was) (search rules)

pub fill_chart-requires : goal.fill_chart-requires
fill_chart-requires c = chart_room _ (seen c.args.chart) _ (judged-told _ _ _ _ _ c.judge.ensures c.in_ok-judge.was)

pub returns : goal.returns
returns c = colour-done _ (seen c.args.chart) _ (judged-told _ _ _ _ _ c.judge.ensures c.in_ok-judge.was) c.fill_chart.ensures
