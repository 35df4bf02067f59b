-- The verdict of the definition is the one that `judge` gave, and each case leaves its outcome.
use Rattle.std.proofs.Common.{◌≡◌, arith, rules}
use Rattle.grouping_chart.specs.Lent.{seen}
use Rattle.grouping_chart.specs.Refusal.{accepted}
use Rattle.grouping_chart.proofs.OutcomeLaws.{judged-told, answered-refused}
use Rattle.call_encode.specs.Call.{judged, memory, encode_outcome}
use Rattle.call_encode.proofs.CallLaws.{done-outcome, limit_small, kinds_room, scratch_room, filled_is}
use Rattle.call_encode.proofs.encode.Goals.{In_ok-judge}
use Rattle.call_encode.proofs.encode.Goals as goal

-- the chart is accepted
taken : (c : In_ok-judge)
    → let a = c.args in
    judged a.s (seen a.chart)
    (memory a.streak.now a.streak_place.now a.pattern.now a.pattern_place.now a.hit.now a.interval.now a.work.now a.scratch.now) ≡ accepted
taken c = judged-told _ _ _ _ _ c.judge.ensures c.in_ok-judge.was

pub returns-in_err-judge : goal.returns-in_err-judge
unfolding encode_outcome
returns-in_err-judge c = answered-refused _ _ _ (judged-told _ _ _ _ _ c.judge.ensures c.in_err-judge.was) (search rules)

pub of-limit-requires : goal.of-limit-requires
of-limit-requires c =
    let small = limit_small _ _ _ (taken (goal.at.of-limit-requires c).In_ok-judge) in
    record { some = omega (arith, small); fits = omega (arith, small) }

pub encode_kinds-hits-requires : goal.encode_kinds-hits-requires
encode_kinds-hits-requires c = rw c.of-limit.ensures (kinds_room _ _ _ (taken (goal.at.encode_kinds-hits-requires c).In_ok-judge))

pub front-requires : goal.front-requires
front-requires c = scratch_room _ _ _ (taken (goal.at.front-requires c).In_ok-judge)

pub returns : goal.returns
returns c =
    let made = c.encode_kinds-hits.ensures in
    let filled = rw c.of-limit.ensures at made.filled in
    done-outcome _ _ _ (taken (goal.at.returns c).In_ok-judge) made.count (filled_is _ _ _ filled c.front.ensures)
