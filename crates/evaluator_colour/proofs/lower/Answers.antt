-- Each literal computes to its value.
use lib.Ieee.{of_bits}
use Rattle.numeric.proofs.ConstantLaws.{eight_tenths_bits}
use Rattle.evaluator_colour.specs.RatioPenalty.{lowered}
use Rattle.evaluator_colour.proofs.lower.Goals as goal

pub returns : goal.returns
unfolding lowered of_bits
returns c = rw eight_tenths_bits
