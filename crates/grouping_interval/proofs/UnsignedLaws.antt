-- A margin that is not negative groups as its size does, since it is only compared with and added.
use mathlib.Core.Path.{◌≡◌}
use mathlib.Core.Bool.{cond}
use lib.Ieee.{Float}
use Rattle.numeric.specs.Near.{abs_of}
use Rattle.numeric.proofs.ZeroSign.{NotNegative, near_unsigned, sum_unsigned}
use Rattle.grouping_interval.specs.IntervalGrouping.{is_rise, pair_class, class_marks, interval_marks}

module _ {margin : Float} (h : NotNegative margin) where
  pub rise_unsigned : is_rise margin ≡ is_rise (abs_of margin)
  unfolding is_rise
  rise_unsigned = λ i v w. sum_unsigned h v w i

  class_unsigned : pair_class margin ≡ pair_class (abs_of margin)
  unfolding pair_class
  class_unsigned = λ i v w. cond (near_unsigned h i v w) 0 (cond (rise_unsigned i v w) 1 2)

  pub marks_unsigned : interval_marks margin ≡ interval_marks (abs_of margin)
  unfolding interval_marks
  marks_unsigned = λ i. class_marks (class_unsigned i)
