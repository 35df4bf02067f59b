-- The outcome of rhythm, case by case, over plain lists: a refusal leaves all as lent, and an accepted call has room in every slice.
use mathlib.Core.Path.{◌≡◌, refl, ◌∙◌}
use mathlib.Core.Bool.{true}
use Prim.Native.Nat.{ℕ, ◌<◌}
use native.Mathlib.Omega.{arith}
use lib.ListN.{get_or}
use Rattle.grouping_marks.specs.Marks.{group_numbers}
use Rattle.lent.proofs.PieceLaws.{get_or-over}
use Rattle.grouping_chart.specs.Object.{is_note, note_idx}
use Rattle.grouping_interval.specs.Notes.{of_notes}
use Rattle.grouping_chart.specs.Chart.{Chart, size}
use Rattle.grouping_chart.specs.Outcome.{outcome}
use Rattle.grouping_chart.specs.Settings.{Settings}
use Rattle.grouping_chart.proofs.OutcomeLaws.{accommodated, answered-done}
use Rattle.grouping_interval.specs.IntervalGrouping.{interval_marks}
use Rattle.grouping_same_rhythm.proofs.MadeLaws.{rhythm_marks_made}
use Rattle.std.specs.Prelude.{Ok}
use Rattle.grouping_chart.specs.Refusal.{accepted}
use Rattle.call_rhythm.specs.declared.tables.GroupCounts.{GroupCounts}
use Rattle.call_rhythm.specs.Rhythm.{note_group, group_of, counts_of}
use Rattle.call_rhythm.specs.Call.{Memory, answer_lengths, judged, filled, totals, rhythm_outcome}
use Rattle.call_rhythm.specs.passes.Tables.{GroupsRoom}
use Rattle.call_rhythm.proofs.TablesLaws.{accepted-tables}
use Rattle.call_rhythm.proofs.PerNoteLaws.{length_per_note, per_note_at}

-- an accepted call has room
pub rhythm_room : (s : Settings) (c : Chart) (m : Memory) → judged s c m ≡ accepted → GroupsRoom c.kinds c.starts c.deltas m
rhythm_room s c m h =
    let r = accommodated s c (answer_lengths m) _ _ h in
    record { tables = accepted-tables m.work m.scratch r; group_room = r.long.0; pattern_room = r.long.1.0 }

-- ---- each case leaves its outcome

module _ (s : Settings) (c : Chart) (m : Memory) where
  -- the counts and the memory that the passes leave are the definition's
  pub rhythm-done : {k : GroupCounts} {new : Memory} → judged s c m ≡ accepted → k ≡ counts_of s.margin c.kinds c.starts c.deltas
      → new ≡ filled s c.kinds c.starts c.deltas m → outcome (Ok (totals k)) new ≡ rhythm_outcome s c m
  unfolding rhythm_outcome
  rhythm-done h e f = answered-done _ _ m h (λ t. outcome (Ok (totals (e t))) (f t))

  left : judged s c m ≡ accepted → (rhythm_outcome s c m).memory ≡ filled s c.kinds c.starts c.deltas m
  left h = rw (← rhythm-done h refl refl)

  -- what an accepted call writes for an object that is a note: the group of its note, by the notes' deltas
  pub group-written : judged s c m ≡ accepted → (o : ℕ) → o < size c → is_note (get_or c.kinds o 0) ≡ true
      → get_or (rhythm_outcome s c m).memory.group o 0
      ≡ get_or (group_numbers (interval_marks s.margin (of_notes c.kinds c.deltas))) (note_idx c.kinds o) 0
  unfolding filled group_of note_group
  group-written h o l n =
      rw (left h)
      (get_or-over (group_of s.margin c.kinds c.deltas) m.group o 0
      (omega (arith, length_per_note 65535 (note_group s.margin c.kinds c.deltas) c.kinds))
      ∙ per_note_at 65535 (note_group s.margin c.kinds c.deltas) c.kinds o 0 l
      ∙ rw (n, rhythm_marks_made s.margin c.kinds c.deltas))
