-- The library's rounding is the definition.
use Rattle.std.proofs.Common.{◌∙◌}
use Rattle.numeric.proofs.RoundLaws.{library_rounds}
use Rattle.numeric.proofs.round.round_ties_even.Goals as goal

pub returns : goal.returns
returns c = c.round_ties_even.ensures ∙ library_rounds c.args.x
