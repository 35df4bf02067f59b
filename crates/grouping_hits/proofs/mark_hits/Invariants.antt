-- The flags that are passed have given place to their marks.
use Rattle.grouping_hits.proofs.HitLaws.{Marked}
use Rattle.grouping_hits.proofs.mark_hits.Given as goal

abbrev pub invariant-loop-flag : goal.invariant-loop-flag
invariant-loop-flag l = Marked l.fn.flags l.flags l.stage l.flag-index
