-- `alike` asks both ways, in the order of the code.
use Rattle.std.proofs.Common.{arith}
use Rattle.std.proofs.lemmas.Grind.{common_steps}
use Rattle.grouping_normalizer.specs.Normalizer.{alike}
use Rattle.grouping_normalizer.proofs.is_alike.Goals as goal

pub returns-then-total_order : goal.returns-then-total_order
unfolding alike
returns-then-total_order c = grind (arith, common_steps)

pub returns-else-total_order : goal.returns-else-total_order
unfolding alike
returns-else-total_order c = grind (arith, common_steps)
