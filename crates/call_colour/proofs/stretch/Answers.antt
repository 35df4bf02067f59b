-- `stretch` meets its contract: the verdict of the definition is the one that the tests gave, each case leaves its outcome, and the mean of an accepted
-- stretch is small enough for its tenths.
use Rattle.std.proofs.Common.{sym, ◌∙◌, arith, rules}
use mir.Facts.{to_z-of_z}
use mir.Syntax.{w64}
use Rattle.grouping_chart.specs.Lent.{seen}
use Rattle.grouping_chart.proofs.OutcomeLaws.{judged-told, chart-refused, then-refused, answered-refused}
use Rattle.call_colour.specs.Call.{memory, stretch_outcome}
use Rattle.call_colour.proofs.CallLaws.{chart_room, stretch-done}
use Rattle.call_colour.proofs.StretchLaws.{Stretched, stretch_room, mean_is, tenths_is, mean_in_range}
use Rattle.call_colour.proofs.StretchCases.{good_lies}
use Rattle.call_colour.proofs.stretch.Goals.{After-fill_chart}
use Rattle.call_colour.proofs.stretch.Goals as goal

-- the values of an accepted stretch are filled
stretched : (c : After-fill_chart)
    → let a = c.args in
    let n = c.fill_chart.new in
    Stretched a.s (seen a.chart) (memory a.value.now a.work.now a.scratch.now) a.a a.b (memory n.value n.work n.scratch)
stretched c = record {
  taken = judged-told _ _ _ _ _ c.judge.ensures c.in_ok-judge.was;
  good = sym c.refusal_between.ensures ∙ c.in_ok-refusal_between.was;
  made = c.fill_chart.ensures;
}

pub returns-in_err-judge : goal.returns-in_err-judge
unfolding stretch_outcome
returns-in_err-judge c =
    answered-refused _ _ _ (chart-refused _ (judged-told _ _ _ _ _ c.judge.ensures c.in_err-judge.was)) (search rules)

pub returns-in_err-refusal_between : goal.returns-in_err-refusal_between
unfolding stretch_outcome
returns-in_err-refusal_between c =
    let taken = judged-told _ _ _ _ _ c.judge.ensures c.in_ok-judge.was in
    answered-refused _ _ _ (then-refused _ taken (sym c.refusal_between.ensures ∙ c.in_err-refusal_between.was)) (search rules)

pub fill_chart-requires : goal.fill_chart-requires
fill_chart-requires c = chart_room _ (seen c.args.chart) _ (judged-told _ _ _ _ _ c.judge.ensures c.in_ok-judge.was)

pub overflow_sub-b : goal.overflow_sub-b
overflow_sub-b c = let lies = good_lies _ _ _ (stretched (goal.at.overflow_sub-b c).After-fill_chart).good in omega (arith, lies.some)

pub mean-mean-requires : goal.mean-mean-requires
mean-mean-requires c = stretch_room (stretched (goal.at.mean-mean-requires c).After-fill_chart)

pub tenths-requires : goal.tenths-requires
tenths-requires c = mean_in_range (stretched (goal.at.tenths-requires c).After-fill_chart) c.mean-mean.ensures

pub returns : goal.returns
returns c =
    let x = stretched (goal.at.returns c).After-fill_chart in
    let mean = mean_is x c.mean-mean.ensures in
    let tenths = to_z-of_z {w = w64} (record { sfits = c.tenths.type_inv }) ∙ c.tenths.ensures ∙ tenths_is x c.mean-mean.ensures in
    stretch-done _ _ _ x.taken x.made _ _ x.good mean tenths
