-- A value is in a range exactly where it passes the tests of both ends.
use lib.Dec.{T}
use lib.Ieee.{Float, le}
use lib.Ieee.Fits.{and_i, and_l, and_r}
use Rattle.numeric.specs.Range.{within}

pub within_ends : (lo hi x : Float) → T (within lo hi x) → T (le lo x) × T (le x hi)
unfolding within
within_ends lo hi x t = (and_l (le lo x) (le x hi) t, and_r (le lo x) (le x hi) t)

pub ends_within : (lo hi x : Float) → T (le lo x) → T (le x hi) → T (within lo hi x)
unfolding within
ends_within lo hi x t u = and_i (le lo x) (le x hi) t u
