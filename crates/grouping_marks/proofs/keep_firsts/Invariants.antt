-- The firsts of the closed groups stand in front, behind which the items are as they were; the firsts still to store are the open group's and those of
-- the items left.
use Rattle.grouping_marks.proofs.PassLaws.{Firsts}
use Rattle.grouping_marks.proofs.keep_firsts.Given as goal

abbrev pub invariant-loop-i : goal.invariant-loop-i
invariant-loop-i l = Firsts l.fn.marks l.fn.items l.fn.items l.items l.first l.groups l.i
