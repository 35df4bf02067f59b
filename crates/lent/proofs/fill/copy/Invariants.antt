-- The loop's invariant: the first i places hold what stands there in the source.
use Rattle.lent.proofs.FillLaws.{Fill}
use Rattle.std.proofs.Common.{length}
use Rattle.lent.proofs.fill.copy.Given as goal

abbrev pub invariant-loop-i : goal.invariant-loop-i
invariant-loop-i g l = Fill l.src (length l.src) 0 l.fn.out l.out l.i
