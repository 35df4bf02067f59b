-- IEEE 754-2019, 5.3.1, roundToIntegralTiesToEven(x): the whole number nearest to x, of two as near the even one.
-- A result of zero has the sign of x; an infinity and a NaN come back.
-- The kit's `closest a b` is the whole number nearest to the fraction a / b, at a tie the even one;
-- x is m * up e / down e in size.
use Rattle.std.specs.Prelude.{Bool, ℕ, ◌*◌, Float}
use Rattle.std.specs.Float.{nan, inf, fin, binary64}
use Rattle.std.specs.Float.Ieee.{up, down, round}
use Rattle.std.specs.Float.Ieee.Nearest.{closest}

-- the whole number n with the sign s: up to 2 ^ 53 it is a value of the format, and `round` changes nothing
unfoldable pub whole_float : Bool → ℕ → Float
whole_float s n = round binary64 s n 1

unfoldable pub round_ties_even : Float → Float
unfolding whole_float
round_ties_even nan = nan
round_ties_even (inf s) = inf s
round_ties_even (fin s m e) = whole_float s (closest (m * up e) (down e))
