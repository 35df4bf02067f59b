-- Of equal values the signs tell.
use Rattle.std.proofs.Common.{◌∙◌}
use mathlib.Core.Bool.{◌||◌}
use Rattle.numeric.proofs.order.Arms.{right_number, equal}
use Rattle.numeric.proofs.order.total_order.Goals as goal

pub is_sign_positive-requires : goal.is_sign_positive-requires
is_sign_positive-requires c = right_number c.args.a c.args.b c.if-a-b.true

pub returns-then-a-b : goal.returns-then-a-b
returns-then-a-b c = (λ i. c.is_sign_negative.ensures i || c.is_sign_positive.ensures i) ∙ equal c.args.a c.args.b c.if-a-b.true
