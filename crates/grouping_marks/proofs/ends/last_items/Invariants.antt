-- The items before this one are stored: those from it on, stored from here, give what all of them give.
use Rattle.grouping_marks.proofs.StoreLaws.{Storing}
use Rattle.grouping_marks.proofs.ends.last_items.Given as goal

abbrev pub invariant-loop-i : goal.invariant-loop-i
invariant-loop-i l = Storing l.fn.numbers l.fn.lasts l.lasts l.i
