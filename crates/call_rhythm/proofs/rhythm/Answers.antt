-- The verdict of the definition is the one that the tests gave, and each case leaves its outcome.
use Rattle.std.proofs.Common.{rules}
use Rattle.grouping_chart.specs.Lent.{seen}
use Rattle.grouping_chart.proofs.OutcomeLaws.{judged-told, answered-refused}
use Rattle.call_rhythm.specs.Call.{rhythm_outcome}
use Rattle.call_rhythm.proofs.CallLaws.{rhythm_room, rhythm-done}
use Rattle.call_rhythm.proofs.rhythm.Goals as goal

pub returns-in_err-judge : goal.returns-in_err-judge
unfolding rhythm_outcome
returns-in_err-judge c = answered-refused _ _ _ (judged-told _ _ _ _ _ c.judge.ensures c.in_err-judge.was) (search rules)

pub fill_groups-counts-requires : goal.fill_groups-counts-requires
fill_groups-counts-requires c = rhythm_room _ (seen c.args.chart) _ (judged-told _ _ _ _ _ c.judge.ensures c.in_ok-judge.was)

pub returns : goal.returns
returns c =
    let made = c.fill_groups-counts.ensures in
    let taken = judged-told _ _ _ _ _ c.judge.ensures c.in_ok-judge.was in
    rw c.from.ensures (rhythm-done _ (seen c.args.chart) _ taken made.counts made.filled)
