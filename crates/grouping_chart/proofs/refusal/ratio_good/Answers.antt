-- The literals are 2^-24 and 2^24 by computation.
use lib.Ieee.{of_bits}
use Rattle.grouping_chart.specs.Refusal.{ratio_good}
use Rattle.grouping_chart.proofs.refusal.ratio_good.Goals as goal

pub returns : goal.returns
unfolding ratio_good of_bits
returns c = c.is_within.ensures
