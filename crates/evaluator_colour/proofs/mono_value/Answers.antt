-- Each literal computes to its value.
use lib.Ieee.{of_bits}
use Rattle.evaluator_colour.specs.Formulas.{mono_value}
use Rattle.evaluator_colour.proofs.mono_value.Goals as goal

pub returns : goal.returns
unfolding mono_value of_bits
returns c = rw c.at.ensures
