-- What `gap` promises: a number that compares as the size of a rounded difference does.
use Rattle.std.specs.Prelude.{cond, Float}
use Rattle.std.specs.Float.{binary64}
use Rattle.std.specs.Float.Ieee.{sub, neg, lt}
use Rattle.numeric.specs.Constants.{zero64}

unfoldable pub gap_of : Float → Float → Float
gap_of a b = let d = sub binary64 a b in cond (lt d zero64) (neg d) d
