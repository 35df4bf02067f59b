-- The outcome of turns, case by case, over plain lists: a refusal leaves all as lent, and an accepted chart has room in every slice.
use mathlib.Core.Path.{◌≡◌, ap, ◌∙◌}
use mathlib.Core.List.{List}
use Prim.Native.Nat.{ℕ, ◌*◌, ◌≤◌}
use native.Mathlib.Omega.{arith}
use lib.ListN.{length, drop, replicate, length-replicate}
use lib.Ieee.{Float, binary64, of_bits}
use Rattle.std.specs.Prelude.{Ok}
use Rattle.lent.specs.Over.{over, put}
use Rattle.lent.proofs.OverLaws.{over-agree, drop-put}
use Rattle.grouping_chart.specs.Chart.{Chart, size}
use Rattle.grouping_chart.specs.Outcome.{outcome}
use Rattle.grouping_chart.specs.Settings.{Settings}
use Rattle.grouping_chart.specs.Refusal.{accepted}
use Rattle.grouping_chart.proofs.SettingsLaws.{InRanges, in_ranges}
use Rattle.grouping_chart.proofs.OutcomeLaws.{answered-done, accommodated}
use Rattle.grouping_preprocessor.specs.passes.Steps.{Regions, Tables}
use Rattle.grouping_preprocessor.specs.declared.Levels.{Levels}
use Rattle.grouping_preprocessor.proofs.LookUpsLaws.{tabled}
use Rattle.call_turns.specs.Turns.{previous_changes, next_changes}
use Rattle.call_turns.specs.Call.{Memory, memory, answer_lengths, judged, filled, turns_outcome}
use Rattle.call_turns.specs.passes.Rooms.{note_indices, TurnsRoom}
use Rattle.call_turns.proofs.NumberLaws.{length-indices}

module _ (s : Settings) (c : Chart) (m : Memory) (taken : judged s c m ≡ accepted) where
  -- an accepted call has a search limit from 2 to 64, and room
  pub limit_small : InRanges s
  limit_small = in_ranges (accommodated s c (answer_lengths m) _ _ taken).permitted

  pub regions : Regions (size c) m.work
  regions = let r = accommodated s c (answer_lengths m) _ _ taken in record { few = r.chart.few; room = r.regions }

  pub scratch_room : size c ≤ length m.scratch
  scratch_room = (accommodated s c (answer_lengths m) _ _ taken).floats

  pub turns_room : {limit : ℕ} {w : List ℕ} {k : Levels} → Tables limit c.kinds m.work w k → TurnsRoom c.kinds w k m.previous m.next
  turns_room t =
      let r = accommodated s c (answer_lengths m) _ _ taken in
      record { tabled = tabled regions t; previous_room = r.long.0; next_room = r.long.1.0 }

  pub done : {new : Memory} → new ≡ filled c.kinds m → outcome (Ok tt) new ≡ turns_outcome s c m
  unfolding turns_outcome
  done made = answered-done _ _ _ taken (λ t. outcome (Ok tt) (made t))

-- the memory that the passes leave is the definition's
pub filled_is : {limit : ℕ} {kinds w work cleared previous next : List ℕ} {k : Levels} {scratch : List Float} (m : Memory) → Regions (length kinds) m.work
    → Tables limit kinds m.work w k → work ≡ put (7 * length kinds) (note_indices kinds) w
    → previous ≡ over (previous_changes kinds) m.previous → next ≡ over (next_changes kinds) m.next
    → cleared ≡ over (replicate (8 * length kinds) 0) work → scratch ≡ over (replicate (length kinds) (of_bits binary64 0)) m.scratch
    → memory previous next cleared scratch ≡ filled kinds m
unfolding filled
filled_is {kinds} {w} {work} m r t e p n z f =
    let past = ap (drop (8 * length kinds)) e ∙ drop-put (8 * length kinds) (7 * length kinds) (note_indices kinds) w (omega (arith, length-indices kinds)) in
    let size = length-replicate (8 * length kinds) 0 in
    let zeros = z ∙ over-agree (replicate (8 * length kinds) 0) work m.work (8 * length kinds) size (past ∙ t.outside.beyond) in
    λ i. memory (p i) (n i) (zeros i) (f i)
