-- Where the second of two numbers does not stand at or before the first, the first stands before it.
use Rattle.std.proofs.Common.{rules}
use Rattle.numeric_sort.proofs.CompareLaws.{comparison-less}
use Rattle.numeric_sort.proofs.compare.Goals as goal

pub returns-then-not-total_order : goal.returns-then-not-total_order
returns-then-not-total_order c = comparison-less _ _ (search rules) (search rules) (search rules)
