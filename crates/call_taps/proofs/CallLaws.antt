-- The outcome of taps, case by case, over plain lists: a refusal leaves all as lent, and an accepted call has room in every slice.
use mathlib.Core.Path.{◌≡◌, refl, sym, ◌∙◌}
use mathlib.Core.Bool.{false}
use Prim.Native.Nat.{ℕ}
use lib.ListN.{length}
use Rattle.std.specs.Prelude.{Ok, Option}
use Rattle.grouping_chart.specs.Outcome.{outcome}
use Rattle.grouping_chart.specs.Refusal.{Verdict, accepted, and_then}
use Rattle.grouping_chart.specs.Room.{short_refusal}
use Rattle.grouping_chart.specs.Settings.{Settings, settings_refusal}
use Rattle.grouping_chart.proofs.AcceptedLaws.{both_passed}
use Rattle.grouping_chart.proofs.OutcomeLaws.{answered-done}
use Rattle.grouping_chart.proofs.RoomLaws.{roomy, all_long, joined, short_joined}
use Rattle.call_taps.specs.Taps.{TapChart, tap_size}
use Rattle.call_taps.specs.Refusals.{tap_verdict}
use Rattle.call_taps.specs.Call.{Memory, answer_lengths, judged, known_groups, filled, taps_outcome}
use Rattle.call_taps.specs.passes.Rooms.{TapsRoom}
use Rattle.call_taps.proofs.VerdictLaws.{tap_passed}

-- the verdict, from what `judge` answered on the tests of the answer slices
pub judged_told : (s : Settings) (t : TapChart) (m : Memory) {v u : Verdict}
    → v ≡ tap_verdict t
    (and_then (short_refusal (joined (tap_size t) false (answer_lengths m)) (tap_size t) (length m.work) (length m.scratch)) (settings_refusal s))
    → v ≡ u → judged s t m ≡ u
judged_told s t m e f = rw (← short_joined (tap_size t) (answer_lengths m)) (sym e ∙ f)

-- an accepted call has room
pub taps_room : (s : Settings) (t : TapChart) (m : Memory) → judged s t m ≡ accepted → TapsRoom t m
taps_room s t m h =
    let p = tap_passed t _ h in
    let r = roomy _ (tap_size t) (length m.work) (length m.scratch) (both_passed _ _ p.room).0 in
    let long = all_long (tap_size t) (answer_lengths m) r.answered in
    record { long = p.long; few = p.few; pair_room = long.0; group_room = long.1.0; regions = r.regions; floats = r.floats }

-- ---- each case leaves its outcome

module _ (s : Settings) (t : TapChart) (m : Memory) where
  -- the answer and the memory that the passes leave are the definition's
  pub taps_done : {known : Option ℕ} {new : Memory} → judged s t m ≡ accepted → known ≡ known_groups s.margin t
      → new ≡ filled s t m → outcome (Ok known) new ≡ taps_outcome s t m
  unfolding taps_outcome
  taps_done h e f = answered-done _ _ m h (λ i. outcome (Ok (e i)) (f i))

  pub answer_left : judged s t m ≡ accepted → (taps_outcome s t m).answer ≡ Ok (known_groups s.margin t)
  answer_left h = rw (← taps_done h refl refl) refl

  pub memory_left : judged s t m ≡ accepted → (taps_outcome s t m).memory ≡ filled s t m
  memory_left h = rw (← taps_done h refl refl) refl
