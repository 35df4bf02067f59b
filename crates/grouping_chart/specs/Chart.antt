-- A chart: four lists with a place for each of its n objects. Kind 0 is Center, 1 is Rim and 2 is NonHit; start and
-- delta are milliseconds; n is at most 16,384 (scope: its first paragraph).
use Rattle.std.specs.Prelude.{ℕ, Bool, false, cond, List, eqb, length, Float}

pub record Chart : Type 0 where
  pub kinds : List ℕ
  pub starts : List Float
  pub deltas : List Float
  pub ratios : List Float

-- n, counted on the kind slice
abbrev pub size : Chart → ℕ
size c = length c.kinds

abbrev pub largest : ℕ
largest = 16384

-- whether the four slices are of one length
unfoldable pub equally_long : Chart → Bool
equally_long c =
    cond (eqb (length c.starts) (size c))
    (cond (eqb (length c.deltas) (size c)) (eqb (length c.ratios) (size c)) false)
    false

-- the chart that is made of what the four slices hold
abbrev pub chart : List ℕ → List Float → List Float → List Float → Chart
chart kinds starts deltas ratios = record { kinds = kinds; starts = starts; deltas = deltas; ratios = ratios }
