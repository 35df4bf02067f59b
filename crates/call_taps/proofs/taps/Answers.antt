-- The verdict of the definition is the one that the tests gave, and each case leaves its outcome.
use Rattle.std.proofs.Common.{rules}
use Rattle.grouping_chart.proofs.OutcomeLaws.{answered-refused}
use Rattle.call_taps.specs.Call.{taps_outcome}
use Rattle.call_taps.specs.Lent.{taps_seen}
use Rattle.call_taps.proofs.CallLaws.{judged_told, taps_room, taps_done}
use Rattle.call_taps.proofs.taps.Goals as goal

pub returns-in_err-judge : goal.returns-in_err-judge
unfolding taps_outcome
returns-in_err-judge c = answered-refused _ _ _ (judged_told _ _ _ c.judge.ensures c.in_err-judge.was) (search rules)

pub fill_taps-requires : goal.fill_taps-requires
fill_taps-requires c = taps_room _ (taps_seen c.args.taps) _ (judged_told _ _ _ c.judge.ensures c.in_ok-judge.was)

pub returns : goal.returns
returns c =
    let made = c.fill_taps.ensures in
    taps_done _ (taps_seen c.args.taps) _ (judged_told _ _ _ c.judge.ensures c.in_ok-judge.was) made.known made.filled
