-- The marks, the numbers in their places, and the last number.
use Rattle.std.proofs.Common.{arith}
use Rattle.grouping_interval.proofs.GroupedLaws.{grouped_none, grouped_all}
use Rattle.grouping_interval.proofs.group_by_interval.Goals as goal

pub returns-then-n-eq0 : goal.returns-then-n-eq0
returns-then-n-eq0 c = grouped_none _ _ _ c.requires c.if-n-eq0.true

pub returns : goal.returns
returns c =
    let some = c.if-n-eq0.false in
    grouped_all _ _ _ c.requires _ c.mark_intervals.ensures _ c.group_numbers.ensures _ _ (omega arith) c.from.ensures
