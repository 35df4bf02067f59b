-- What is refused of a chart whose deltas are known to within ranges: as of every chart, save that both ends of a range
-- are tested where a delta is, and then their order, which is 15 (change requests: 6/12).
use Rattle.std.specs.Prelude.{Bool, false, ◌&&◌, cond, List, [], ◌∷◌, eqb, ltb, length, Float, Err}
use Rattle.std.specs.Float.Ieee.{le}
use Rattle.grouping_chart.specs.Chart.{largest}
use Rattle.grouping_chart.specs.Refusal.{Check, passed, Verdict, time_good, first_refused, in_order}
use Rattle.grouping_chart.specs.declared.refusal.Reason.TheVariants.{BadDelta, LowestAboveHighest}
use Rattle.grouping_ranges.specs.declared.Range.{Range}
use Rattle.call_taps.specs.Taps.{TapChart, tap_size}

unfoldable pub range_refusal : Range → Check
range_refusal r =
    cond (time_good r.low && time_good r.high)
    (cond (le r.low r.high) passed (Err LowestAboveHighest))
    (Err BadDelta)

-- the ranges, one for each object
unfoldable pub ranges : List Float → List Float → List Range
ranges [] highest = []
ranges (l ∷ lowest) [] = []
ranges (l ∷ lowest) (h ∷ highest) = record { low = l; high = h } ∷ ranges lowest highest

-- whether the five slices are of one length
unfoldable pub all_equally_long : TapChart → Bool
all_equally_long t =
    cond (eqb (length t.starts) (tap_size t))
    (cond (eqb (length t.lowest) (tap_size t))
    (cond (eqb (length t.highest) (tap_size t)) (eqb (length t.ratios) (tap_size t)) false)
    false)
    false

abbrev pub ranges_verdict : TapChart → Verdict
ranges_verdict t = first_refused range_refusal 0 t.kinds t.starts (ranges t.lowest t.highest) t.ratios

-- the verdict on a call; `beside` is the test of what is beside the chart
unfoldable pub tap_verdict : TapChart → Check → Verdict
tap_verdict t beside = in_order (ltb largest (tap_size t)) (all_equally_long t) beside (ranges_verdict t)
