-- Each path ends in the case of `middle` that its test names.
use lib.Ieee.{of_bits}
use Rattle.grouping_normalizer.proofs.SetLaws.{middle-even}
use Rattle.grouping_normalizer.proofs.middle_value.Goals as goal

pub returns-else-set-eq1 : goal.returns-else-set-eq1
unfolding of_bits
returns-else-set-eq1 c = middle-even _ c.if-set-eq1.false
