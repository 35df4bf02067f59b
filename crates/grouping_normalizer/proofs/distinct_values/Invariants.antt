-- The loop's invariant: the first k + 1 places have what is kept of the values before i.
use Rattle.std.proofs.Common.{length}
use Rattle.grouping_normalizer.proofs.DistinctLaws.{Thinning}
use Rattle.grouping_normalizer.proofs.distinct_values.Given as goal

abbrev pub invariant-loop-i : goal.invariant-loop-i
invariant-loop-i l = Thinning l.initial.values l.values (length l.initial.values) l.k l.i
