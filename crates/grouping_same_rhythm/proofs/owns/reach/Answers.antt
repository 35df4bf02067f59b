-- What the checker asks of `reach` and does not find by itself. Whatever the walk calls the place where it begins, it is the last group's end.
use Rattle.std.proofs.Common.{arith, add-one}
use Rattle.grouping_same_rhythm.proofs.OwnsReach.{reaching_start, reaching_open, reaching_turn, reaching_end}
use Rattle.grouping_same_rhythm.proofs.owns.reach.Goals as goal

pub groups-init : goal.groups-init
groups-init c = rw c.new-owns.ensures (reaching_start _ _ _ c.requires)

pub slice_bounds-modal_delta-count : goal.slice_bounds-modal_delta-count
slice_bounds-modal_delta-count c = omega (arith, reaching_open c.groups.invariant c.groups-test.true c.step-end.ensures.1 (omega arith))

pub slice_bounds-modal_delta-start : goal.slice_bounds-modal_delta-start
slice_bounds-modal_delta-start c = slice_bounds-modal_delta-count c

pub slice_bounds-modal_delta-end : goal.slice_bounds-modal_delta-end
slice_bounds-modal_delta-end c = (reaching_open c.groups.invariant c.groups-test.true c.step-end.ensures.1 (omega arith)).upto

pub groups-preserved : goal.groups-preserved
groups-preserved c =
    rw add-one
    (reaching_turn c.groups.invariant c.groups-test.true c.step-end.ensures.1 (omega arith) c.modal_delta-own.ensures c.further-owns.ensures
    c.modal_delta-own.auto.deltas)

pub returns-2 : goal.returns-2
returns-2 c =
    reaching_end
    (reaching_turn c.groups.invariant c.groups-test.true c.step-end.ensures.1 (omega arith) c.modal_delta-own.ensures c.further-owns.ensures
    c.modal_delta-own.auto.deltas)
    (omega arith)
