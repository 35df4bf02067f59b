-- The loop's invariant: after k turns k groups are behind, put in order, and the own intervals are those of the last four of them.
use Rattle.grouping_same_rhythm.proofs.OwnsReach.{Reaching}
use Rattle.grouping_same_rhythm.proofs.owns.reach.Given as goal

abbrev pub invariant-groups : goal.invariant-groups
invariant-groups l = Reaching l.margin l.initial.deltas l.deltas l.g l.owns l.at l.end l._k
