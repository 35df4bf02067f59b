-- Two values are near where they are a margin apart at most: a parameter, as of the source's `almost_eq`.
-- In the scope's interval_grouping.rs it is 5.0, which a call's settings may replace since 7/12.
-- The difference is IEEE 754-2019's subtraction (5.4.1), rounded; the comparison is 5.11's, so a NaN is near nothing.
use Rattle.std.specs.Prelude.{Bool, false, Float}
use Rattle.std.specs.Float.{nan, inf, fin, binary64}
use Rattle.std.specs.Float.Ieee.{sub, lt, le}

-- |x|: x with its sign bit 0 (5.5.1, abs)
unfoldable pub abs_of : Float → Float
abs_of nan = nan
abs_of (inf s) = inf false
abs_of (fin s m e) = fin false m e

unfoldable pub is_near : Float → Float → Float → Bool
unfolding abs_of
is_near margin a b = le (abs_of (sub binary64 a b)) margin

-- whether a lies nearer to x than b does, by the sizes of the two rounded differences: where one is a NaN, it does not
unfoldable pub is_nearer : Float → Float → Float → Bool
is_nearer x a b = lt (abs_of (sub binary64 a x)) (abs_of (sub binary64 b x))
