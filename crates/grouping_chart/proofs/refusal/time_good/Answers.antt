-- The literals are 2^24 and its negative by computation.
use lib.Ieee.{of_bits, neg}
use Rattle.grouping_chart.specs.Refusal.{time_good}
use Rattle.grouping_chart.proofs.refusal.time_good.Goals as goal

pub returns : goal.returns
unfolding time_good of_bits neg
returns c = c.is_within.ensures
