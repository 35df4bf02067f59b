-- The f64 numbers that the formulas of the scope name, and -0.0, which changes no sum: 64 for binary64, so that none is
-- taken for a natural number.
use Rattle.std.specs.Prelude.{true, false, pos, negsuc, Float}
use Rattle.std.specs.Float.{fin, binary64}
use Rattle.std.specs.Float.Ieee.{round}

abbrev pub zero64 : Float
zero64 = fin false 0 (pos 0)

abbrev pub minus_zero64 : Float
minus_zero64 = fin true 0 (pos 0)

abbrev pub half64 : Float
half64 = fin false 1 (negsuc 0)

abbrev pub one64 : Float
one64 = fin false 1 (pos 0)

abbrev pub two64 : Float
two64 = fin false 1 (pos 1)

abbrev pub thousand64 : Float
thousand64 = fin false 125 (pos 3)

-- 0.8, the f64 nearest to 8 / 10
unfoldable pub eight_tenths : Float
eight_tenths = round binary64 false 8 10
