-- The firsts of the closed groups stand in front, and the firsts still to store are the open group's and those of the items left.
use Rattle.grouping_marks.proofs.PassLaws.{Firsts}
use Rattle.grouping_marks.proofs.group_firsts.Given as goal

abbrev pub invariant-loop-i : goal.invariant-loop-i
invariant-loop-i l = Firsts l.fn.marks l.fn.items l.fn.firsts l.firsts l.first l.groups l.i
