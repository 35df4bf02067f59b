-- The verdict of the definition is the one that the tests gave, and each case leaves its outcome.
use Rattle.std.proofs.Common.{◌≡◌, sym, rules}
use Rattle.grouping_chart.specs.Refusal.{accepted}
use Rattle.grouping_chart.proofs.OutcomeLaws.{answered-refused}
use Rattle.call_build.specs.Call.{memory, judged, build_outcome}
use Rattle.call_build.specs.Lent.{raw_seen}
use Rattle.call_build.proofs.CallLaws.{judged-told, as-many-times, build_room, build-done}
use Rattle.call_build.proofs.build.Goals.{In_ok-judge}
use Rattle.call_build.proofs.build.Goals as goal

-- the raw objects are accepted
taken : (c : In_ok-judge)
    → let a = c.args in judged a.rate (raw_seen a.raw) (memory a.built_kind.now a.start.now a.delta.now a.ratio.now) ≡ accepted
taken c = judged-told _ _ _ (sym c.size-n.ensures) c.judge.ensures c.in_ok-judge.was

pub invariant_of-fill_chart : goal.invariant_of-fill_chart
invariant_of-fill_chart c = record { as_many_times = as-many-times _ _ _ (taken (goal.at.invariant_of-fill_chart c).In_ok-judge) }

pub fill_chart-requires : goal.fill_chart-requires
fill_chart-requires c = build_room _ _ _ (taken (goal.at.fill_chart-requires c).In_ok-judge)

pub returns-in_err-judge : goal.returns-in_err-judge
unfolding build_outcome
returns-in_err-judge c =
    answered-refused _ _ _ (judged-told _ _ _ (sym c.size-n.ensures) c.judge.ensures c.in_err-judge.was) (search rules)

pub returns : goal.returns
returns c = build-done _ _ _ (sym c.size-n.ensures) (taken (goal.at.returns c).In_ok-judge) c.fill_chart.ensures
