-- Ranges with their ends, and those of a chart's times and ratios (scope: refusals 5 to 7).
use Rattle.std.specs.Prelude.{Bool, true, false, ◌&&◌, pos, negsuc, Float}
use Rattle.std.specs.Float.{fin}
use Rattle.std.specs.Float.Ieee.{le}

-- from lo to hi: a NaN is not, as it is not at most anything (IEEE 754-2019, 5.11)
unfoldable pub within : Float → Float → Float → Bool
within lo hi x = le lo x && le x hi

-- a start or a delta: −2^24 to 2^24, which is 16,777,216
abbrev pub earliest : Float
earliest = fin true 1 (pos 24)

abbrev pub latest : Float
latest = fin false 1 (pos 24)

-- a ratio: 2^−24 to 2^24
abbrev pub least_ratio : Float
least_ratio = fin false 1 (negsuc 23)

abbrev pub greatest_ratio : Float
greatest_ratio = fin false 1 (pos 24)
