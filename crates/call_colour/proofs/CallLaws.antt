-- The outcomes of colour and stretch, case by case, over plain lists: a refusal leaves all as lent, and an accepted call has room in every slice.
use mathlib.Core.Path.{◌≡◌}
use Prim.Native.Nat.{ℕ}
use lib.IntN.{ℤ}
use lib.Ieee.{Float}
use Rattle.grouping_chart.specs.Chart.{Chart}
use Rattle.grouping_chart.specs.Outcome.{outcome}
use Rattle.std.specs.Prelude.{Ok}
use Rattle.grouping_chart.specs.Refusal.{accepted}
use Rattle.grouping_chart.proofs.SettingsLaws.{in_ranges}
use Rattle.grouping_chart.proofs.OutcomeLaws.{accommodated, nothing-refused, answered-done}
use Rattle.grouping_chart.specs.Settings.{Settings}
use Rattle.call_colour.specs.Stretch.{GoodStretch, chart_mean, chart_tenths}
use Rattle.call_colour.specs.Call.{Memory, answer_lengths, judged, filled, stretch_mean, colour_outcome, stretch_outcome}
use Rattle.call_colour.specs.passes.Rooms.{ChartRoom}

-- ---- each case leaves its outcome

module _ (s : Settings) (c : Chart) (m : Memory) where
  -- an accepted call has room
  pub chart_room : judged s c m ≡ accepted → ChartRoom s c.kinds c.ratios m
  chart_room h =
      let r = accommodated s c (answer_lengths m) _ _ h in
      let limits = in_ranges r.permitted in
      record {
        least = limits.least;
        most = limits.most;
        ratio = r.chart.lengths.ratio;
        values = r.long.0;
        regions = record { few = r.chart.few; room = r.regions };
        floats = r.floats;
      }

  module _ (taken : judged s c m ≡ accepted) {new : Memory} (made : new ≡ filled s c.kinds c.ratios m) where
    pub colour-done : outcome (Ok tt) new ≡ colour_outcome s c m
    unfolding colour_outcome
    colour-done = answered-done _ _ _ taken (λ t. outcome (Ok tt) (made t))

    pub stretch-done : (a b : ℕ) {mean : Float} {tenths : ℤ} → GoodStretch c.kinds a b → mean ≡ chart_mean s c a b → tenths ≡ chart_tenths s c a b
        → outcome (Ok (stretch_mean mean tenths)) new ≡ stretch_outcome s c a b m
    unfolding stretch_outcome
    stretch-done a b x e f =
        answered-done _ _ _ (nothing-refused _ taken x) (λ t. outcome (Ok (stretch_mean (e t) (f t))) (made t))
