-- When a stored case of rhythm holds: on the chart that its bytes say and slices full of sentinels
-- the call's definition gives the original's answer.
use Rattle.std.specs.Prelude.{◌≡◌, List, ℕ, ◌+◌, ◌*◌, length, replicate, Result, Ok}
use Rattle.lent.specs.Over.{part}
use Rattle.numeric.specs.Constants.{one64}
use Rattle.grouping_chart.specs.Chart.{Chart}
use Rattle.grouping_chart.specs.Outcome.{Outcome}
use Rattle.grouping_chart.specs.Settings.{base_settings}
use Rattle.grouping_chart.specs.declared.refusal.Refusal.{Refusal}
use Rattle.call_rhythm.specs.Call.{Memory, rhythm_outcome}
use Rattle.call_rhythm.specs.declared.GroupTotals.{GroupTotals}
use Rattle.vectors.specs.Case.{pair_at, column, words}
use Rattle.vectors.specs.Held.{FrontHeld}
use Rattle.vectors.specs.Table.{floats}
use Rattle.vectors.specs.declared.call.Call.TheVariants.{Rhythm}
use Rattle.vectors.specs.declared.case.Head.{Head}
use Rattle.vectors.specs.Form.{Formed, Holds}
use Rattle.vectors.specs.Sentinel.{number_sentinel, numbers_lent, floats_lent, work_lent, Cleared}

-- ---- what is stored

-- behind two numbers and the kinds stand the starts and the deltas, in turn;
-- ratios are not stored, since neither call looks at them
unfoldable pub rhythm_chart : ℕ → List ℕ → Chart
rhythm_chart n body = record {
  kinds = part 4 n body;
  starts = floats (words body (4 + n) n);
  deltas = floats (words body (4 + 9 * n) n);
  ratios = replicate n one64;
}

-- ---- rhythm

-- so many places to spare in each slice
unfoldable pub rhythm_lent : ℕ → ℕ → Memory
rhythm_lent n spare = record {
  group = numbers_lent n spare;
  pattern = numbers_lent n spare;
  work = work_lent n spare;
  scratch = floats_lent n spare;
}

-- how many groups and pattern groups are stored
abbrev pub totals_at : List ℕ → GroupTotals
totals_at body = record { groups = pair_at body 0; patterns = pair_at body 2 }

-- both counts, the numbers of each object, which have two bytes, and cleared work slices
pub record RhythmStored (n : ℕ) (body : List ℕ) (o : Outcome (Result GroupTotals Refusal) Memory) : Type 0 where
  pub answer : o.answer ≡ Ok (totals_at body)
  pub groups : FrontHeld (column body (4 + 17 * n) 2 n) number_sentinel o.memory.group
  pub patterns : FrontHeld (column body (4 + 19 * n) 2 n) number_sentinel o.memory.pattern
  pub cleared : Cleared n o.memory.work o.memory.scratch

-- the bytes of a rhythm case
unfoldable pub RhythmForm : Head → List ℕ → Type 0
RhythmForm h body = Formed Rhythm 2 2 (4 + 21 * h.objects) h (length body)

unfoldable pub RhythmHolds : Head → List ℕ → ℕ → Type 0
RhythmHolds h body spare =
    let n : ℕ = h.objects in
    Holds n (RhythmForm h body)
    (RhythmStored n body (rhythm_outcome base_settings (rhythm_chart n body) (rhythm_lent n spare)))
