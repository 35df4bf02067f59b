-- The literals are 1 and 1000 by computation.
use lib.Ieee.{of_bits}
use Rattle.call_record.specs.Call.{window_good}
use Rattle.call_record.proofs.window_good.Goals as goal

pub returns : goal.returns
unfolding window_good of_bits
returns c = c.is_within.ensures
