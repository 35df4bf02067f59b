-- Under a tolerance that is not negative the ratio penalty is that under its size.
use mathlib.Core.Path.{◌≡◌}
use mathlib.Core.Bool.{cond}
use lib.Dec.{ltb}
use lib.Ieee.{Float, binary64, div}
use Rattle.numeric.specs.Constants.{one64}
use Rattle.numeric.specs.Near.{abs_of}
use Rattle.numeric.proofs.ZeroSign.{NotNegative, near_unsigned}
use Rattle.evaluator_colour.specs.RatioPenalty.{lowered, ratio_penalty}

pub penalty_unsigned : {tolerance : Float} → NotNegative tolerance → ratio_penalty tolerance ≡ ratio_penalty (abs_of tolerance)
unfolding ratio_penalty
penalty_unsigned h = λ i idx c p.
    cond (ltb idx 2) one64 (cond (near_unsigned h i one64 (div binary64 c p)) (lowered c) (cond (ltb idx 4) one64 (lowered p)))
