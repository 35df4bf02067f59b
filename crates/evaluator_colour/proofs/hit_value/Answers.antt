-- Each literal computes to its value.
use lib.Ieee.{of_bits}
use Rattle.evaluator_colour.specs.Formulas.{hit_value}
use Rattle.evaluator_colour.proofs.hit_value.Goals as goal

pub returns : goal.returns
unfolding hit_value of_bits
returns c = rw c.at.ensures
