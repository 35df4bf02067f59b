-- What record hands back on the lent slices is what its definition gives on slices full of sentinels.
use mathlib.Core.Path.{◌≡◌}
use mathlib.Core.List.{List}
use Rattle.std.specs.Prelude.{Some}
use mathlib.Core.Bool.{Bool}
use Prim.Native.Nat.{ℕ, ◌+◌, ◌*◌}
use lib.ListN.{take, replicate}
use lib.Ieee.{Float}
use Rattle.call_record.specs.Call.{Memory}
use Rattle.vectors.specs.Held.{Tells}
use Rattle.vectors.specs.declared.call.Call.TheVariants.{Record as RecordCall}
use Rattle.vectors.specs.declared.case.Head.{Head}
use Rattle.vectors.specs.Sentinel.{number_sentinel, float_sentinel}
use Rattle.vectors.specs.passes.Room.{most_places, most_work, Few}
use Rattle.vectors.proofs.SentinelLaws.{work-lent, floats-lent}
use Rattle.vectors.proofs.TellsLaws.{tells_of}
use Rattle.cases_rhythm.specs.Rhythm.{rhythm_chart}
use Rattle.cases_rhythm.specs.passes.Times.{TimesRead}
use Rattle.cases_rhythm.proofs.RhythmLaws.{made_chart, zeros, chart_is}
use Rattle.cases_record.specs.Record.{record_lent, asked_outcome, RecordStored, RecordHolds}

-- ---- the chart and the slices, as fronts of what the code makes

abbrev made_memory : ℕ → ℕ → Memory
made_memory n spare =
    record { work = take (8 * n + spare) (replicate most_work number_sentinel); scratch = take (n + spare) (replicate most_places float_sentinel) }

module _ {n spare : ℕ} (few : Few n spare) (body : List ℕ) {starts deltas : List Float} (x : TimesRead n body zeros starts zeros deltas) where
  memory_is : made_memory n spare ≡ record_lent n spare
  unfolding record_lent
  memory_is = rw (work-lent few, floats-lent few)

  pub made_told : {part : List ℕ} {r : Bool} → Tells r (RecordStored n part (asked_outcome part (made_chart n body starts deltas) (made_memory n spare)))
      → Tells r (RecordStored n part (asked_outcome part (rhythm_chart n body) (record_lent n spare)))
  made_told {part} t = tells_of (RecordStored n part) (λ i. asked_outcome part (chart_is few body x i) (memory_is i)) t

pub record_call : (chart : Head) (body : List ℕ) (h : Head) (part : List ℕ) (spare : ℕ) → RecordHolds chart body h part spare → h.call ≡ Some RecordCall
unfolding RecordHolds
record_call chart body h part spare p = p.form.1.form.asked
