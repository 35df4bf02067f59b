-- Each hit pattern has the smallest match from k on, or one above the limit.
use Rattle.grouping_hits.proofs.IntervalLaws.{Searched}
use Rattle.grouping_hits.proofs.repetition_intervals.Given as goal

abbrev pub invariant-loop-k : goal.invariant-loop-k
invariant-loop-k l =
    Searched l.fn.limit.value l.fn.patterns.first.now l.fn.patterns.second.now l.fn.patterns.third.now l.fn.found l.found l.k
