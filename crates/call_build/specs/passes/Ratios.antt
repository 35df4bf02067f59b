-- The ratios that the pass makes of the deltas that were filled.
use Rattle.std.specs.Prelude.{ℕ, zero, suc, List, length, get_or, Float}
use Rattle.std.specs.Float.{nan, binary64}
use Rattle.std.specs.Float.Ieee.{div}
use Rattle.lent.specs.Scan.{tabulate}
use Rattle.numeric.specs.Constants.{one64}
use Rattle.call_build.specs.Ratio.{nearest_ratio}

unfoldable pub ratio_from : List Float → ℕ → Float
ratio_from deltas zero = one64
ratio_from deltas (suc i) = nearest_ratio (div binary64 (get_or deltas (suc i) nan) (get_or deltas i nan))

abbrev pub ratios_from : List Float → List Float
ratios_from deltas = tabulate (ratio_from deltas) (length deltas)
