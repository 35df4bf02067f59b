-- Two own intervals of 0.0 milliseconds have the ratio 0 ÷ 0, a NaN, and not 1.0.
use mathlib.Core.Path.{◌≡◌, refl}
use lib.Ieee.{nan, div}
use Rattle.numeric.specs.Constants.{zero64}
use Rattle.std.specs.Prelude.{Some}
use Rattle.grouping_same_rhythm.specs.Own.{ratio_of}

pub ratio_of_zeros : ratio_of (Some zero64) (Some zero64) ≡ nan
unfolding ratio_of div
ratio_of_zeros = refl
