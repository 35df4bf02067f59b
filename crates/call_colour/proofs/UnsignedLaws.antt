-- A permitted set and the same set without signs give one outcome of colour, and one of stretch: they have the same values, and refuse the same.
use mathlib.Core.Path.{◌≡◌}
use Prim.Native.Nat.{ℕ}
use lib.ListN.{length}
use Rattle.numeric.specs.Tenths.{tenths_of}
use Rattle.lent.specs.Over.{over}
use Rattle.grouping_chart.specs.Chart.{Chart}
use Rattle.grouping_chart.specs.Outcome.{answered}
use Rattle.grouping_chart.specs.Room.{cleared_work, cleared_scratch}
use Rattle.grouping_chart.specs.Settings.{Settings, Permitted, unsigned}
use Rattle.grouping_chart.proofs.SettingsLaws.{InRanges, in_ranges}
use Rattle.grouping_chart.proofs.UnsignedLaws.{tolerance_not_negative, judged_unsigned}
use Rattle.grouping_interval.specs.Notes.{of_notes}
use Rattle.evaluator_values.specs.Colour.{colour_values}
use Rattle.evaluator_values.proofs.UnsignedLaws as values
use Rattle.call_colour.specs.Stretch.{from_to, stretch_verdict, stretch_values, average_of, chart_mean, chart_tenths}
use Rattle.call_colour.specs.Call.{Memory, answer_lengths, judged, filled, stretch_mean, colour_outcome, stretch_outcome}

module _ {s : Settings} (r : InRanges s) where
  values_unsigned : colour_values s.search_limit s.tolerance ≡ colour_values (unsigned s).search_limit (unsigned s).tolerance
  values_unsigned = values.values_unsigned (tolerance_not_negative r) s.search_limit

  pub filled_unsigned : filled s ≡ filled (unsigned s)
  unfolding filled
  filled_unsigned = λ i kinds ratios m. record {
    value = over (values_unsigned i kinds ratios) m.value;
    work = cleared_work (length kinds) m.work;
    scratch = cleared_scratch (length kinds) m.scratch;
  }

  here_unsigned : judged s ≡ judged (unsigned s)
  here_unsigned = λ i c m. judged_unsigned r i c (answer_lengths m) m.work m.scratch

  pub mean_unsigned : chart_mean s ≡ chart_mean (unsigned s)
  unfolding chart_mean stretch_values
  mean_unsigned = λ i c a b. average_of (of_notes (from_to a b c.kinds) (from_to a b (values_unsigned i c.kinds c.ratios)))

  pub tenths_unsigned : chart_tenths s ≡ chart_tenths (unsigned s)
  unfolding chart_tenths
  tenths_unsigned = λ i c a b. tenths_of (mean_unsigned i c a b)

pub colour_unsigned : (s : Settings) → Permitted s → (c : Chart) (m : Memory) → colour_outcome s c m ≡ colour_outcome (unsigned s) c m
unfolding colour_outcome
colour_unsigned s p c m =
    let r = in_ranges p in
    λ i. answered (here_unsigned r i c m) tt (filled_unsigned r i c.kinds c.ratios m) m

pub stretch_unsigned : (s : Settings) → Permitted s → (c : Chart) (a b : ℕ) (m : Memory)
    → stretch_outcome s c a b m ≡ stretch_outcome (unsigned s) c a b m
unfolding stretch_outcome
stretch_unsigned s p c a b m =
    let r = in_ranges p in
    λ i. answered (stretch_verdict (here_unsigned r i c m) c.kinds a b) (stretch_mean (mean_unsigned r i c a b) (tenths_unsigned r i c a b))
    (filled_unsigned r i c.kinds c.ratios m) m
