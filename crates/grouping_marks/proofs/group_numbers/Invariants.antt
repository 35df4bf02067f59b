-- The marks that are passed have given place to the numbers; the count is that of the groups opened so far.
use Rattle.grouping_marks.specs.Marks.{opened, number_by_mark}
use Rattle.grouping_marks.proofs.PassLaws.{Passing}
use Rattle.grouping_marks.proofs.group_numbers.Given as goal

abbrev pub invariant-loop-mark : goal.invariant-loop-mark
invariant-loop-mark l = Passing opened number_by_mark l.fn.marks l.marks l.count l.mark-index
