-- The literals are 0.25 and 4.0 by computation.
use lib.Ieee.{of_bits}
use Rattle.call_build.specs.Call.{rate_good}
use Rattle.call_build.proofs.verdict.rate_good.Goals as goal

pub returns : goal.returns
unfolding rate_good of_bits
returns c = c.is_within.ensures
