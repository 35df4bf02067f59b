-- The ratio penalty by what its three tests found.
use mathlib.Core.Path.{◌≡◌}
use mathlib.Core.Bool.{Bool, cond}
use Prim.Native.Nat.{ℕ}
use lib.Dec.{ltb}
use lib.Ieee.{Float, binary64, div}
use Rattle.numeric.specs.Constants.{one64}
use Rattle.numeric.specs.Near.{is_near}
use Rattle.evaluator_colour.specs.RatioPenalty.{lowered, ratio_penalty}

module _ (tolerance : Float) (idx : ℕ) (c p : Float) where
  pub tested : (r s t : Bool) → ltb idx 2 ≡ r → is_near tolerance one64 (div binary64 c p) ≡ s → ltb idx 4 ≡ t
      → cond r one64 (cond s (lowered c) (cond t one64 (lowered p))) ≡ ratio_penalty tolerance idx c p
  unfolding ratio_penalty
  tested r s t h k l = rw (h, k, l)
