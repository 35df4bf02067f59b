-- When stored turns of an encode case's chart hold: on that chart and slices full of sentinels
-- the call's definition gives the original's answer.
use Rattle.std.specs.Prelude.{◌≡◌, List, ℕ, ◌*◌, length, Result, Ok}
use Rattle.grouping_chart.specs.Outcome.{Outcome}
use Rattle.grouping_chart.specs.Settings.{base_settings}
use Rattle.grouping_chart.specs.declared.refusal.Refusal.{Refusal}
use Rattle.call_turns.specs.Call.{Memory, turns_outcome}
use Rattle.vectors.specs.Case.{column}
use Rattle.vectors.specs.Held.{FrontHeld}
use Rattle.vectors.specs.declared.call.Call.TheVariants.{Turns as TurnsCall}
use Rattle.vectors.specs.declared.case.Head.{Head}
use Rattle.vectors.specs.Form.{PartFormed, Holds}
use Rattle.vectors.specs.Sentinel.{number_sentinel, numbers_lent, floats_lent, work_lent, Cleared}
use Rattle.cases_encode.specs.Encode.{encode_chart, EncodeForm}

-- so many places to spare in each slice
unfoldable pub turns_lent : ℕ → ℕ → Memory
turns_lent n spare = record {
  previous = numbers_lent n spare;
  next = numbers_lent n spare;
  work = work_lent n spare;
  scratch = floats_lent n spare;
}

-- the chart is accepted; two columns of numbers, which have two bytes each, since one may be 65535; cleared work slices
pub record TurnsStored (n : ℕ) (part : List ℕ) (o : Outcome (Result (Unit {0}) Refusal) Memory) : Type 0 where
  pub answer : o.answer ≡ Ok tt
  pub previous : FrontHeld (column part 0 2 n) number_sentinel o.memory.previous
  pub next : FrontHeld (column part (2 * n) 2 n) number_sentinel o.memory.next
  pub cleared : Cleared n o.memory.work o.memory.scratch

-- turns with this head and these bytes, of the chart of an encode case
unfoldable pub TurnsHolds : Head → List ℕ → Head → List ℕ → ℕ → Type 0
TurnsHolds chart body h part spare =
    let n : ℕ = chart.objects in
    Holds n (EncodeForm chart body × PartFormed TurnsCall 2 (4 * n) n h (length part))
    (TurnsStored n part (turns_outcome base_settings (encode_chart n body) (turns_lent n spare)))
