-- When a stored record of a rhythm case's chart holds: on that chart and slices full of sentinels
-- the call's definition gives the original's answer.
use Rattle.std.specs.Prelude.{◌≡◌, List, ℕ, length}
use Rattle.std.specs.Float.{binary64}
use Rattle.std.specs.Float.Ieee.{to_bits, of_bits}
use Rattle.grouping_chart.specs.Chart.{Chart}
use Rattle.grouping_chart.specs.Outcome.{Outcome}
use Rattle.grouping_chart.specs.Settings.{base_settings}
use Rattle.grouping_chart.specs.declared.refusal.Refusal.{Refusal}
use Rattle.std.specs.Prelude.{Option, None, Some, Result, Ok, Err, Float}
use Rattle.call_record.specs.Call.{Memory, record_outcome}
use Rattle.call_record.specs.declared.GroupRecord.{GroupRecord}
use Rattle.vectors.specs.Case.{pair_at, word_at}
use Rattle.vectors.specs.declared.call.Call.TheVariants.{Record as RecordCall}
use Rattle.vectors.specs.declared.case.Head.{Head}
use Rattle.vectors.specs.Form.{PartFormed, Holds}
use Rattle.vectors.specs.Sentinel.{floats_lent, work_lent, Cleared}
use Rattle.cases_rhythm.specs.Rhythm.{rhythm_chart, RhythmForm}

-- so many places to spare in each slice
unfoldable pub record_lent : ℕ → ℕ → Memory
record_lent n spare = record { work = work_lent n spare; scratch = floats_lent n spare }

-- the group's own interval: 1 and its bits, or 0 and 0 where there is none
unfoldable pub OwnIs : List ℕ → Option Float → Type 0
OwnIs part None = (pair_at part 8 ≡ 0) × (word_at part 18 ≡ 0)
OwnIs part (Some x) = (pair_at part 8 ≡ 1) × (to_bits binary64 x ≡ word_at part 18)

-- every field, floats by their bits
pub record PlacesAre (part : List ℕ) (r : GroupRecord) : Type 0 where
  pub first : r.first.0 ≡ pair_at part 2
  pub notes : r.notes ≡ pair_at part 4
  pub pattern : r.pattern ≡ pair_at part 6
  pub own : OwnIs part r.own

pub record ScoresAre (part : List ℕ) (r : GroupRecord) : Type 0 where
  pub ratio : to_bits binary64 r.ratio ≡ word_at part 26
  pub interval : to_bits binary64 r.interval ≡ word_at part 34
  pub penalty : to_bits binary64 r.penalty ≡ word_at part 42
  pub patternratio : to_bits binary64 r.patternratio ≡ word_at part 50

unfoldable pub RecordIs : List ℕ → Result GroupRecord Refusal → Type 0
RecordIs part (Ok r) = PlacesAre part r × ScoresAre part r
RecordIs part (Err refused) = ⊥

pub record RecordStored (n : ℕ) (part : List ℕ) (o : Outcome (Result GroupRecord Refusal) Memory) : Type 0 where
  pub answer : RecordIs part o.answer
  pub cleared : Cleared n o.memory.work o.memory.scratch

-- what the definition gives for the group and the window that are stored
unfoldable pub asked_outcome : List ℕ → Chart → Memory → Outcome (Result GroupRecord Refusal) Memory
asked_outcome part c m = record_outcome base_settings c (pair_at part 0) (of_bits binary64 (word_at part 10)) m

-- a record with this head and these bytes, of the chart of a rhythm case
unfoldable pub RecordHolds : Head → List ℕ → Head → List ℕ → ℕ → Type 0
RecordHolds chart body h part spare =
    let n : ℕ = chart.objects in
    Holds n (RhythmForm chart body × PartFormed RecordCall 2 58 n h (length part))
    (RecordStored n part (asked_outcome part (rhythm_chart n body) (record_lent n spare)))
