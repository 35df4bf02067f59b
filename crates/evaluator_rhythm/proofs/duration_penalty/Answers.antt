-- Each literal computes to its value.
use lib.Ieee.{of_bits}
use Rattle.evaluator_rhythm.specs.RepeatedInterval.{duration_penalty}
use Rattle.evaluator_rhythm.proofs.duration_penalty.Goals as goal

pub returns : goal.returns
unfolding duration_penalty of_bits
returns c = c.larger_of.ensures
