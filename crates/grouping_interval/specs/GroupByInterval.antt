-- What `group_by_interval` promises (scope: interval_grouping.rs): the group numbers and the count that the marks of
-- the grouping give.
use Rattle.std.specs.Prelude.{◌≡◌, ℕ, List, Float}
use Rattle.lent.specs.Over.{over}
use Rattle.grouping_marks.specs.Marks.{group_count, group_numbers}
use Rattle.grouping_interval.specs.IntervalGrouping.{interval_marks}

-- each value's group number is over the front of what was `old` and is now `new`, and r is how many groups there are
pub record GroupedByInterval (margin : Float) (values : List Float) (old new : List ℕ) (r : ℕ) : Type 0 where
  pub numbers : new ≡ over (group_numbers (interval_marks margin values)) old
  pub count : r ≡ group_count (interval_marks margin values)
