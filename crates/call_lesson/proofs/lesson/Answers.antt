-- `lesson` meets its contract: the verdict of the definition is the one that `judge` gave; after it colour's pass fills the values, and each pair its answers.
use Rattle.std.proofs.Common.{◌≡◌, rules}
use Rattle.grouping_chart.specs.Lent.{seen}
use Rattle.grouping_chart.specs.Refusal.{accepted}
use Rattle.grouping_chart.proofs.OutcomeLaws.{answered-refused}
use Rattle.call_colour.proofs.CallLaws.{chart_room}
use Rattle.call_lesson.specs.Lent.{stretches_seen}
use Rattle.call_lesson.specs.Call.{Memory, judged, memory, filled, lesson_outcome}
use Rattle.call_lesson.proofs.CallLaws.{Taken, judged_told, taken, done}
use Rattle.call_lesson.proofs.StretchLaws.{pairs_room, filled_is}
use Rattle.call_lesson.proofs.lesson.Goals.{In_ok-judge}
use Rattle.call_lesson.proofs.lesson.Goals as goal

module _ (c : In_ok-judge) where
  -- the slices as they are lent
  abbrev lent : Memory
  lent = memory c.args.value.now c.args.mean.now c.args.tenths.now c.args.work.now c.args.scratch.now

  good : judged c.args.s (seen c.args.chart) (stretches_seen c.args.marked) lent ≡ accepted
  good = judged_told c.args.s (seen c.args.chart) (stretches_seen c.args.marked) lent c.judge.ensures c.in_ok-judge.was

  known : Taken c.args.s (seen c.args.chart) (stretches_seen c.args.marked) lent
  known = taken _ _ _ _ good

pub returns-in_err-judge : goal.returns-in_err-judge
unfolding lesson_outcome
returns-in_err-judge c =
    let a = c.args in
    let l = stretches_seen a.marked in
    let m = memory a.value.now a.mean.now a.tenths.now a.work.now a.scratch.now in
    answered-refused tt (filled a.s (seen a.chart) l m) m (judged_told a.s (seen a.chart) l m c.judge.ensures c.in_err-judge.was) (search rules)

pub fill_chart-requires : goal.fill_chart-requires
fill_chart-requires c = chart_room _ (seen c.args.chart) _ (known (goal.at.fill_chart-requires c).In_ok-judge).chart

pub fill_answers-requires : goal.fill_answers-requires
fill_answers-requires c = pairs_room (known (goal.at.fill_answers-requires c).In_ok-judge) c.fill_chart.ensures

pub returns : goal.returns
returns c =
    let x = (goal.at.returns c).In_ok-judge in
    done _ _ _ _ (good x) (filled_is (known x) c.fill_chart.ensures c.fill_answers.ensures.mean c.fill_answers.ensures.tenths)
