-- The loop's invariant: the group took the value before i, and it ends where the group that starts at `at` ends.
use Rattle.grouping_interval.proofs.GroupLaws.{Within}
use Rattle.grouping_interval.proofs.group_end.Given as goal

abbrev pub invariant-loop-i : goal.invariant-loop-i
invariant-loop-i l = Within l.margin l.values l.at l.i
