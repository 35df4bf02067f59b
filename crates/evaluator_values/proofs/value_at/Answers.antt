-- The object's sum and its penalty, multiplied.
use Rattle.std.proofs.Common.{ap, ◌∙◌}
use lib.Ieee.{binary64, mul}
use Rattle.evaluator_colour.specs.Formulas.{object_sum}
use Rattle.evaluator_colour.specs.RatioPenalty.{ratio_penalty}
use Rattle.evaluator_values.specs.passes.Tables.{looked_colour}
use Rattle.evaluator_values.proofs.value_at.Goals as goal

pub returns : goal.returns
unfolding looked_colour
returns c =
    let s = c.object_sum-sum.ensures ∙ ap object_sum c.standing_at.ensures in
    let p = c.ratio_penalty.ensures ∙ ap (ratio_penalty _ _ _) c.earlier_ratio-p.ensures in
    λ t. mul binary64 (s t) (p t)
