-- The definition's steps are what the calls promise, in their order.
use lib.Ieee.{of_bits}
use Rattle.evaluator_colour.specs.Formulas.{object_sum}
use Rattle.evaluator_colour.proofs.object_sum.Goals as goal

pub returns : goal.returns
unfolding object_sum of_bits
returns c = cc
