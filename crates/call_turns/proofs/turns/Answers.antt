-- `turns` meets its contract: the verdict of the definition is the one that the tests gave, and each case leaves its outcome.
use Rattle.std.proofs.Common.{◌≡◌, arith, rules}
use Rattle.grouping_chart.specs.Lent.{seen}
use Rattle.grouping_chart.specs.Refusal.{accepted}
use Rattle.grouping_chart.proofs.OutcomeLaws.{judged-told, answered-refused}
use Rattle.call_turns.specs.Call.{judged, memory, turns_outcome}
use Rattle.call_turns.proofs.CallLaws.{limit_small, regions, scratch_room, turns_room, done, filled_is}
use Rattle.call_turns.proofs.turns.Goals.{In_ok-judge}
use Rattle.call_turns.proofs.turns.Goals as goal

-- the chart is accepted
taken : (c : In_ok-judge) → let a = c.args in judged a.s (seen a.chart) (memory a.previous.now a.next.now a.work.now a.scratch.now) ≡ accepted
taken c = judged-told _ _ _ _ _ c.judge.ensures c.in_ok-judge.was

pub returns-in_err-judge : goal.returns-in_err-judge
unfolding turns_outcome
returns-in_err-judge c = answered-refused _ _ _ (judged-told _ _ _ _ _ c.judge.ensures c.in_err-judge.was) (search rules)

pub of-limit-requires : goal.of-limit-requires
of-limit-requires c =
    let small = limit_small _ _ _ (taken (goal.at.of-limit-requires c).In_ok-judge) in
    record { some = omega (arith, small); fits = omega (arith, small) }

pub encode_levels-levels-requires : goal.encode_levels-levels-requires
encode_levels-levels-requires c = regions _ _ _ (taken (goal.at.encode_levels-levels-requires c).In_ok-judge)

pub fill_turns-requires : goal.fill_turns-requires
fill_turns-requires c = turns_room _ _ _ (taken (goal.at.fill_turns-requires c).In_ok-judge) c.encode_levels-levels.ensures.tables

pub overflow_mul-n : goal.overflow_mul-n
overflow_mul-n c = let r = regions _ _ _ (taken (goal.at.overflow_mul-n c).In_ok-judge) in omega (arith, r.few)

pub front-requires : goal.front-requires
front-requires c =
    let r = regions _ _ _ (taken (goal.at.front-requires c).In_ok-judge) in
    omega (arith, r.room, c.encode_levels-levels.auto.w, c.fill_turns.auto.work)

pub front-requires-2 : goal.front-requires-2
front-requires-2 c = scratch_room _ _ _ (taken (goal.at.front-requires-2 c).In_ok-judge)

pub returns : goal.returns
returns c =
    let t = taken (goal.at.returns c).In_ok-judge in
    let f = c.fill_turns.ensures in
    done _ _ _ t (filled_is _ (regions _ _ _ t) c.encode_levels-levels.ensures.tables f.work f.previous f.next c.front.ensures c.front-2.ensures)
