-- Under a tolerance that is not negative the colour values are those under its size.
use mathlib.Core.Path.{◌≡◌}
use Prim.Native.Nat.{ℕ, ◌-◌}
use lib.ListN.{length, get_or}
use lib.Ieee.{Float, nan, binary64, mul}
use Rattle.lent.specs.Scan.{tabulate}
use Rattle.numeric.specs.Near.{abs_of}
use Rattle.numeric.proofs.ZeroSign.{NotNegative}
use Rattle.evaluator_colour.specs.Formulas.{object_sum}
use Rattle.evaluator_colour.proofs.UnsignedLaws.{penalty_unsigned}
use Rattle.evaluator_values.specs.Colour.{standing_at, colour_at, colour_values}

module _ {tolerance : Float} (h : NotNegative tolerance) (limit : ℕ) where
  at_unsigned : colour_at limit tolerance ≡ colour_at limit (abs_of tolerance)
  unfolding colour_at
  at_unsigned = λ i kinds ratios o.
      mul binary64 (object_sum (standing_at limit kinds o)) (penalty_unsigned h i o (get_or ratios o nan) (get_or ratios (o - 2) nan))

  pub values_unsigned : colour_values limit tolerance ≡ colour_values limit (abs_of tolerance)
  unfolding colour_values
  values_unsigned = λ i kinds ratios. tabulate (at_unsigned i kinds ratios) (length kinds)
