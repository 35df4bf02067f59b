-- The loop's invariant: x counts among the rest as among all, since no set before it holds x.
use Rattle.std.proofs.Common.{◌≡◌, length}
use Rattle.grouping_normalizer.specs.Normalizer.{middle_of, sets}
use Rattle.grouping_normalizer.proofs.middle_of.Given as goal

abbrev pub invariant-loop-rest : goal.invariant-loop-rest
invariant-loop-rest l = middle_of l.x (sets l.margin l.rest) ≡ middle_of l.x (sets l.margin l.values)

abbrev pub decreases-loop-rest : goal.decreases-loop-rest
decreases-loop-rest l = length l.rest
