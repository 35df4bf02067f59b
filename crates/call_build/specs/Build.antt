-- The chart that is built of raw objects and a clock rate (change requests: 1/12; `create_difficulty_objects`). Its
-- object i is made of the raw object i + 2 and the time of the raw object before that.
use Rattle.std.specs.Prelude.{ℕ, zero, suc, ◌+◌, ◌-◌, List, length, drop, get_or, Float}
use Rattle.std.specs.Float.{nan, binary64}
use Rattle.std.specs.Float.Ieee.{sub, div}
use Rattle.lent.specs.Scan.{tabulate}
use Rattle.numeric.specs.Constants.{one64}
use Rattle.grouping_chart.specs.Chart.{Chart}
use Rattle.call_build.specs.Ratio.{nearest_ratio}

-- what an editor holds: a kind and a time for each object
pub record Raw : Type 0 where
  pub kinds : List ℕ
  pub times : List Float

-- the raw objects of what the two slices hold
abbrev pub raw : List ℕ → List Float → Raw
raw kinds times = record { kinds = kinds; times = times }

-- when object i starts
unfoldable pub start_at : Float → List Float → ℕ → Float
start_at rate times i = div binary64 (get_or times (i + 2) nan) rate

-- the time since the raw object before: the rounded difference, divided
unfoldable pub delta_at : Float → List Float → ℕ → Float
delta_at rate times i = div binary64 (sub binary64 (get_or times (i + 2) nan) (get_or times (i + 1) nan)) rate

-- the ratio of object i, by its delta and that of the object before it, whatever its kind
unfoldable pub ratio_at : Float → Raw → ℕ → Float
ratio_at rate r zero = one64
ratio_at rate r (suc i) = nearest_ratio (div binary64 (delta_at rate r.times (suc i)) (delta_at rate r.times i))

-- n, how many objects are built: none of up to two raw ones
abbrev pub built_size : Raw → ℕ
built_size r = length r.kinds - 2

abbrev pub built_starts : Float → List Float → ℕ → List Float
built_starts rate times n = tabulate (start_at rate times) n

abbrev pub built_deltas : Float → List Float → ℕ → List Float
built_deltas rate times n = tabulate (delta_at rate times) n

abbrev pub built_ratios : Float → Raw → ℕ → List Float
built_ratios rate r n = tabulate (ratio_at rate r) n

unfoldable pub built_chart : Float → Raw → Chart
built_chart rate r =
    let n = built_size r in
    record {
      kinds = drop 2 r.kinds;
      starts = built_starts rate r.times n;
      deltas = built_deltas rate r.times n;
      ratios = built_ratios rate r n;
    }
