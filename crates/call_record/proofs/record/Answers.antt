-- The verdict of the definition is the one that the tests gave, and each case leaves its outcome.
use Rattle.std.proofs.Common.{◌≡◌, sym, ◌∙◌, rules}
use Rattle.grouping_chart.specs.Lent.{seen}
use Rattle.grouping_chart.specs.Refusal.{accepted}
use Rattle.grouping_chart.proofs.OutcomeLaws.{judged-told, chart-refused, then-refused, answered-refused}
use Rattle.call_record.specs.Call.{judged, memory, record_outcome}
use Rattle.call_record.proofs.CallLaws.{lengths_same, group_room, outcome-done}
use Rattle.call_record.proofs.record.Goals.{In_ok-judge}
use Rattle.call_record.proofs.record.Goals as goal

-- the chart is accepted
taken : (c : In_ok-judge) → judged c.args.s (seen c.args.chart) (memory c.args.work.now c.args.scratch.now) ≡ accepted
taken c = judged-told _ _ _ _ _ c.judge.ensures c.in_ok-judge.was

pub returns-in_err-judge : goal.returns-in_err-judge
unfolding record_outcome
returns-in_err-judge c =
    answered-refused _ _ _ (chart-refused _ (judged-told _ _ _ _ _ c.judge.ensures c.in_err-judge.was)) (search rules)

pub record_refusal-requires : goal.record_refusal-requires
record_refusal-requires c = lengths_same _ _ _ (taken (goal.at.record_refusal-requires c).In_ok-judge)

pub returns-in_err-record_refusal : goal.returns-in_err-record_refusal
unfolding record_outcome
returns-in_err-record_refusal c =
    let asked = sym c.record_refusal.ensures ∙ c.in_err-record_refusal.was in
    answered-refused _ _ _ (then-refused _ (judged-told _ _ _ _ _ c.judge.ensures c.in_ok-judge.was) asked) (search rules)

pub make_record-requires : goal.make_record-requires
make_record-requires c =
    group_room _ _ _ _ _ (taken (goal.at.make_record-requires c).In_ok-judge) (sym c.record_refusal.ensures ∙ c.in_ok-record_refusal.was)

pub returns : goal.returns
returns c =
    let made = c.make_record.ensures in
    let none = sym c.record_refusal.ensures ∙ c.in_ok-record_refusal.was in
    outcome-done _ _ _ _ _ (taken (goal.at.returns c).In_ok-judge) none made.made made.cleared
