-- Under a margin that is not negative two ranges surely have the class that they surely have under its size.
use mathlib.Core.Path.{◌≡◌}
use mathlib.Core.Bool.{not, cond, ◌&&◌, ◌||◌}
use lib.Ieee.{Float, lt}
use Rattle.numeric.specs.Near.{abs_of}
use Rattle.numeric.proofs.ZeroSign.{NotNegative, near_unsigned}
use Rattle.grouping_interval.proofs.UnsignedLaws.{rise_unsigned}
use Rattle.grouping_ranges.specs.declared.Range.{Range}
use Rattle.grouping_ranges.specs.SureClass.{far_apart, sure_class}

module _ {margin : Float} (h : NotNegative margin) where
  apart_unsigned : (a b : Range) → far_apart margin a b ≡ far_apart (abs_of margin) a b
  apart_unsigned a b =
      λ i. (lt b.high a.low && not (near_unsigned h i a.low b.high)) || (lt a.high b.low && not (near_unsigned h i a.high b.low))

  pub sure_unsigned : sure_class margin ≡ sure_class (abs_of margin)
  unfolding sure_class
  sure_unsigned = λ i a b.
      cond (near_unsigned h i a.high b.low && near_unsigned h i a.low b.high) 0
      (cond (not (near_unsigned h i a.high b.low) && rise_unsigned h i a.high b.low) 1
      (cond (apart_unsigned a b i && not (rise_unsigned h i a.low b.high)) 2 3))
