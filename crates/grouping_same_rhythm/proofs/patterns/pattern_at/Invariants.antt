-- The loop's invariant: the walk stands at pattern `number`, of the groups from `at` to `end`, and the pattern before it lies from `before` to `at`.
use Rattle.std.proofs.Common.{◌-◌, length}
use Rattle.grouping_same_rhythm.proofs.PatternsLaws.{Found}
use Rattle.grouping_same_rhythm.proofs.patterns.pattern_at.Given as goal

abbrev pub invariant-loop-end : goal.invariant-loop-end
invariant-loop-end l = Found l.margin l.intervals l.g l.number l.before l.at l.end

abbrev pub decreases-loop-end : goal.decreases-loop-end
decreases-loop-end l = length l.intervals - l.end
