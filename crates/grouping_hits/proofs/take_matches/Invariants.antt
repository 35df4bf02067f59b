-- The hit patterns from the k-th on that are passed have k where they match; all others keep what they have.
use Rattle.grouping_hits.proofs.IntervalLaws.{Taken}
use Rattle.grouping_hits.proofs.take_matches.Given as goal

abbrev pub invariant-loop-h : goal.invariant-loop-h
invariant-loop-h l = Taken l.k l.fn.patterns.first.now l.fn.patterns.second.now l.fn.patterns.third.now l.fn.taken l.taken l.h
