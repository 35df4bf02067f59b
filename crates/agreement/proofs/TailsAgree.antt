-- Demand 3, proved: two accepted charts with a common tail agree from every landmark in it on. It holds for every set of settings, and so for every `Permitted`
-- one. Colour and rhythm are put together here.
use mathlib.Core.Path.{◌≡◌}
use Prim.Native.Nat.{ℕ}
use Rattle.grouping_chart.specs.Chart.{Chart}
use Rattle.grouping_chart.specs.Refusal.{Check, accepted, verdict}
use Rattle.grouping_chart.specs.Settings.{Settings}
use Rattle.grouping_chart.proofs.AcceptedLaws.{accepted_good}
use Rattle.agreement.specs.TailAgreement.{AlikeTails, TailAgreement}
use Rattle.agreement.proofs.colour.Claimed.{colour_claim}
use Rattle.agreement.proofs.rhythm.Claimed.{chart_claim}
use Rattle.agreement.proofs.rhythm.NoteLaws.{same_note}

pub tails_agree : (s : Settings) (c c' : Chart) (beside beside' : Check) (m : ℕ) → verdict c beside ≡ accepted → verdict c' beside' ≡ accepted
    → AlikeTails c c' m → TailAgreement s c c' m
tails_agree s c c' beside beside' m good good' t =
    let long = (accepted_good c beside good).lengths in
    let long' = (accepted_good c' beside' good').lengths in
    record {
      colour = λ p p' far landmark. colour_claim s c c' long.ratio long'.ratio t.kinds t.ratios far landmark;
      rhythm = chart_claim s c c' long.delta long'.delta t.kinds t.deltas;
      notes = same_note c c' long.delta long'.delta t.kinds t.deltas;
    }
