-- The calls colour and stretch (scope: Calls and what they fill): what each answers, and what every lent
-- slice holds afterwards. Refusals 9 and 11 are tested after 1 to 7.
use Rattle.std.specs.Prelude.{ℕ, List, [], ◌∷◌, length, ℤ, Float, Result}
use Rattle.lent.specs.Over.{over}
use Rattle.grouping_chart.specs.Chart.{Chart}
use Rattle.grouping_chart.specs.Room.{cleared_work, cleared_scratch}
use Rattle.grouping_chart.specs.Outcome.{Outcome, judged_by, answered}
use Rattle.grouping_chart.specs.Refusal.{Verdict}
use Rattle.grouping_chart.specs.declared.refusal.Refusal.{Refusal}
use Rattle.grouping_chart.specs.Settings.{Settings}
use Rattle.evaluator_values.specs.Colour.{colour_values}
use Rattle.call_colour.specs.Stretch.{stretch_verdict, chart_mean, chart_tenths}
use Rattle.call_colour.specs.declared.StretchMean.{StretchMean}

-- the slices that are lent to be written: the values and two work slices
pub record Memory : Type 0 where
  pub value : List Float
  pub work : List ℕ
  pub scratch : List Float

-- the memory that is made of the three slices, in the order in which they are lent
abbrev pub memory : List Float → List ℕ → List Float → Memory
memory value work scratch =
    record { value = value; work = work; scratch = scratch }

-- how many places the answer slice has
abbrev pub answer_lengths : Memory → List ℕ
answer_lengths m = length m.value ∷ []

abbrev pub judged : Settings → Chart → Memory → Verdict
judged s c m = judged_by s c (answer_lengths m) m.work m.scratch

-- the memory after an accepted call, by the chart's kinds and ratios
unfoldable pub filled : Settings → List ℕ → List Float → Memory → Memory
filled s kinds ratios m = record {
  value = over (colour_values s.search_limit s.tolerance kinds ratios) m.value;
  work = cleared_work (length kinds) m.work;
  scratch = cleared_scratch (length kinds) m.scratch;
}

unfoldable pub colour_outcome : Settings → Chart → Memory → Outcome (Result (Unit {0}) Refusal) Memory
colour_outcome s c m = answered (judged s c m) tt (filled s c.kinds c.ratios m) m

abbrev pub stretch_mean : Float → ℤ → StretchMean
stretch_mean mean tenths = record { mean = mean; tenths = tenths }

unfoldable pub stretch_outcome : Settings → Chart → ℕ → ℕ → Memory → Outcome (Result StretchMean Refusal) Memory
stretch_outcome s c a b m =
    answered (stretch_verdict (judged s c m) c.kinds a b)
    (stretch_mean (chart_mean s c a b) (chart_tenths s c a b))
    (filled s c.kinds c.ratios m)
    m
