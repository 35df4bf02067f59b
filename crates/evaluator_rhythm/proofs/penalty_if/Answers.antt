-- Each literal computes to its value.
use Rattle.numeric.proofs.ConstantLaws.{eight_tenths_bits}
use Rattle.evaluator_rhythm.proofs.penalty_if.Goals as goal

pub returns-then-similar : goal.returns-then-similar
returns-then-similar c = rw c.if-similar.true eight_tenths_bits
