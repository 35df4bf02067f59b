-- What turns hands back on the lent slices is what its definition gives on slices full of sentinels.
use mathlib.Core.Path.{◌≡◌}
use mathlib.Core.List.{List}
use Rattle.std.specs.Prelude.{Some}
use mathlib.Core.Bool.{Bool}
use Prim.Native.Nat.{ℕ, ◌+◌, ◌*◌}
use lib.ListN.{take, replicate}
use Rattle.grouping_chart.specs.Settings.{base_settings}
use Rattle.call_turns.specs.Call.{Memory, turns_outcome}
use Rattle.vectors.specs.Held.{Tells}
use Rattle.vectors.specs.declared.call.Call.TheVariants.{Turns as TurnsCall}
use Rattle.vectors.specs.declared.case.Head.{Head}
use Rattle.vectors.specs.Sentinel.{number_sentinel, float_sentinel}
use Rattle.vectors.specs.passes.Room.{most_places, most_work, Few}
use Rattle.vectors.proofs.SentinelLaws.{numbers-lent, work-lent, floats-lent}
use Rattle.vectors.proofs.TellsLaws.{tells_of}
use Rattle.cases_encode.specs.Encode.{encode_chart}
use Rattle.cases_encode.proofs.EncodeLaws.{made_chart, chart_is}
use Rattle.cases_turns.specs.Turns.{turns_lent, TurnsStored, TurnsHolds}

-- ---- the slices, as fronts of what the code makes

abbrev made_memory : ℕ → ℕ → Memory
made_memory n spare = record {
  previous = take (n + spare) (replicate most_places number_sentinel);
  next = take (n + spare) (replicate most_places number_sentinel);
  work = take (8 * n + spare) (replicate most_work number_sentinel);
  scratch = take (n + spare) (replicate most_places float_sentinel);
}

module _ {n spare : ℕ} (few : Few n spare) where
  memory_is : made_memory n spare ≡ turns_lent n spare
  unfolding turns_lent
  memory_is = rw (numbers-lent few, work-lent few, floats-lent few)

  pub made_told : (body : List ℕ) {part : List ℕ} {r : Bool}
      → Tells r (TurnsStored n part (turns_outcome base_settings (made_chart n body) (made_memory n spare)))
      → Tells r (TurnsStored n part (turns_outcome base_settings (encode_chart n body) (turns_lent n spare)))
  made_told body {part} t = tells_of (TurnsStored n part) (λ i. turns_outcome base_settings (chart_is few body i) (memory_is i)) t

-- ---- the case

pub turns_call : (chart : Head) (body : List ℕ) (h : Head) (part : List ℕ) (spare : ℕ) → TurnsHolds chart body h part spare → h.call ≡ Some TurnsCall
unfolding TurnsHolds
turns_call chart body h part spare p = p.form.1.form.asked
