-- The closure gives the class of two times.
use Rattle.std.proofs.Common.{rules}
use Rattle.grouping_interval.specs.IntervalGrouping.{pair_class, interval_marks}
use Rattle.grouping_interval.proofs.marks.mark_intervals.Goals as goal

pub returns : goal.returns
unfolding interval_marks
returns c = c.mark_classes.ensures (pair_class c.args.margin) (λ z i given h e. search rules)
