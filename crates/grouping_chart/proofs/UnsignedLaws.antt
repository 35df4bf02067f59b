-- A set that is not refused has no negative number, so the same set without signs is not refused either, and what a call refuses is the same under both.
use mathlib.Core.Path.{◌≡◌, sym, ◌∙◌}
use lib.ListN.{length}
use Rattle.numeric.specs.Constants.{zero64, one64}
use Rattle.numeric.proofs.range.Laws.{within_ends}
use Rattle.numeric.proofs.ZeroSign.{NotNegative, size_within}
use Rattle.grouping_chart.specs.Chart.{size}
use Rattle.grouping_chart.specs.Outcome.{judged_by}
use Rattle.grouping_chart.specs.Refusal.{and_then, verdict}
use Rattle.grouping_chart.specs.Room.{any_short, short_refusal, refusal_beside}
use Rattle.grouping_chart.specs.Settings.{Settings, fifty64, settings_refusal, Permitted, unsigned}
use Rattle.grouping_chart.proofs.SettingsLaws.{InRanges, in_ranges, ranges_permitted}

module _ {s : Settings} (r : InRanges s) where
  pub margin_not_negative : NotNegative s.margin
  margin_not_negative = record { from_zero = (within_ends zero64 fifty64 s.margin r.margin).0 }

  pub threshold_not_negative : NotNegative s.threshold
  threshold_not_negative = record { from_zero = (within_ends zero64 one64 s.threshold r.threshold).0 }

  pub tolerance_not_negative : NotNegative s.tolerance
  tolerance_not_negative = record { from_zero = (within_ends zero64 one64 s.tolerance r.tolerance).0 }

  ranges_unsigned : InRanges (unsigned s)
  ranges_unsigned = record {
    margin = size_within margin_not_negative fifty64 r.margin;
    least = r.least;
    most = r.most;
    threshold = size_within threshold_not_negative one64 r.threshold;
    tolerance = size_within tolerance_not_negative one64 r.tolerance;
  }

  refusal_unsigned : settings_refusal s ≡ settings_refusal (unsigned s)
  refusal_unsigned = ranges_permitted r ∙ sym (ranges_permitted ranges_unsigned)

  -- what is refused beside a chart, and of a call on it
  pub beside_unsigned : refusal_beside s ≡ refusal_beside (unsigned s)
  beside_unsigned = λ i n answers work scratch. and_then (short_refusal (any_short n answers) n work scratch) (refusal_unsigned i)

  pub judged_unsigned : judged_by s ≡ judged_by (unsigned s)
  judged_unsigned = λ i c answers work scratch. verdict c (beside_unsigned i (size c) answers (length work) (length scratch))

pub unsigned_permitted : (s : Settings) → Permitted s → Permitted (unsigned s)
unsigned_permitted s p = ranges_permitted (ranges_unsigned (in_ranges p))
