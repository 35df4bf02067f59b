-- The rounding of the library is the definition.
use Rattle.std.proofs.Common.{◌≡◌, refl, true, false}
use Rattle.std.specs.Float as Float
use lib.Ieee.{Float, nan, inf, fin, binary64}
use Rattle.numeric.specs.RoundTiesEven.{whole_float, round_ties_even}

pub library_rounds : (x : Float) → Float.round_ties_even binary64 x ≡ round_ties_even x
unfolding round_ties_even whole_float Float.round_with
library_rounds nan = refl
library_rounds (inf s) = refl
library_rounds (fin true m e) = refl
library_rounds (fin false m e) = refl
