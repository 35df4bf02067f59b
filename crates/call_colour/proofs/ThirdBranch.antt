-- The original's `smootherstep` line is reached under no settings that a call accepts: it stands behind a comparison of an object's ratio with itself, and
-- the quotient of the two is 1.0, which is near 1.0 under every tolerance, 0.0 and -0.0 too.
use mathlib.Core.Path.{◌≡◌}
use mathlib.Core.Bool.{true}
use Prim.Native.Nat.{ℕ, ◌<◌}
use lib.ListN.{get_or}
use lib.Ieee.{nan, binary64, div}
use Rattle.numeric.specs.Constants.{zero64, one64}
use Rattle.numeric.specs.Near.{is_near}
use Rattle.numeric.proofs.range.Laws.{within_ends}
use Rattle.grouping_chart.specs.Chart.{Chart, size}
use Rattle.grouping_chart.specs.Settings.{Settings}
use Rattle.grouping_chart.specs.Refusal.{accepted}
use Rattle.grouping_chart.proofs.RangeLaws.{ratio_range}
use Rattle.grouping_chart.proofs.SettingsLaws.{in_ranges}
use Rattle.grouping_chart.proofs.OutcomeLaws.{accommodated}
use Rattle.evaluator_colour.proofs.PenaltyLaws.{own-near}
use Rattle.call_colour.specs.Call.{Memory, answer_lengths, judged}

pub third_never : (s : Settings) (c : Chart) (m : Memory) → judged s c m ≡ accepted → (i : ℕ) → i < size c
    → is_near s.tolerance one64 (div binary64 (get_or c.ratios i nan) (get_or c.ratios i nan)) ≡ true
third_never s c m h i inside =
    let r = accommodated s c (answer_lengths m) _ _ h in
    let positive = (within_ends zero64 one64 s.tolerance (in_ranges r.permitted).tolerance).0 in
    let ends = ratio_range (get_or c.ratios i nan) (r.chart.objects i nan inside).ratio in
    own-near s.tolerance (get_or c.ratios i nan) positive ends.0 ends.1
