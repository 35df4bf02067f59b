-- The loop's invariant: the notes left, counted on from here, give what all of them give.
use Rattle.grouping_interval.proofs.CountLaws.{Counts}
use Rattle.grouping_interval.proofs.notes.count_groups.Given as goal

abbrev pub invariant-loop-i : goal.invariant-loop-i
invariant-loop-i l = Counts l.margin l.kind l.delta l.counting l.i
