-- When a stored case of encode holds: on the chart that its bytes say and slices full of sentinels
-- the call's definition gives the original's answer.
use Rattle.std.specs.Prelude.{◌≡◌, List, ℕ, ◌+◌, ◌*◌, length, replicate, Float, Result, Ok}
use Rattle.lent.specs.Over.{part}
use Rattle.numeric.specs.Constants.{one64}
use Rattle.grouping_chart.specs.Chart.{Chart}
use Rattle.grouping_chart.specs.Outcome.{Outcome}
use Rattle.grouping_chart.specs.Settings.{base_settings}
use Rattle.grouping_chart.specs.declared.refusal.Refusal.{Refusal}
use Rattle.call_encode.specs.Call.{Memory, encode_outcome}
use Rattle.vectors.specs.Case.{pair_at, column_size, column}
use Rattle.vectors.specs.Held.{FrontHeld}
use Rattle.vectors.specs.declared.call.Call.TheVariants.{Encode}
use Rattle.vectors.specs.declared.case.Head.{Head}
use Rattle.vectors.specs.Form.{Formed, Holds}
use Rattle.vectors.specs.Sentinel.{number_sentinel, byte_sentinel, numbers_lent, floats_lent, work_lent, Cleared}

-- the kinds are stored behind a number; starts, deltas and ratios are not, since encode answers by the kinds alone
unfoldable pub encode_chart : ℕ → List ℕ → Chart
encode_chart n body =
    let ones : List Float = replicate n one64 in
    record { kinds = part 2 n body; starts = ones; deltas = ones; ratios = ones }

-- so many places to spare in each slice
unfoldable pub encode_lent : ℕ → ℕ → Memory
encode_lent n spare = record {
  streak = numbers_lent n spare;
  streak_place = numbers_lent n spare;
  pattern = numbers_lent n spare;
  pattern_place = numbers_lent n spare;
  hit = numbers_lent n spare;
  interval = replicate (n + spare) byte_sentinel;
  work = work_lent n spare;
  scratch = floats_lent n spare;
}

-- five columns of numbers, one right after the other, behind the kinds; each has so many bytes
pub record NumbersStored (size width n : ℕ) (body streak streak_place pattern pattern_place hit : List ℕ) : Type 0 where
  pub streaks : FrontHeld (column body (2 + n) width n) number_sentinel streak
  pub streak_places : FrontHeld (column body (2 + n + size) width n) number_sentinel streak_place
  pub patterns : FrontHeld (column body (2 + n + 2 * size) width n) number_sentinel pattern
  pub pattern_places : FrontHeld (column body (2 + n + 3 * size) width n) number_sentinel pattern_place
  pub hits : FrontHeld (column body (2 + n + 4 * size) width n) number_sentinel hit

-- the number of hit patterns, the columns, a row of bytes, and cleared work slices
pub record EncodeStored (size width n : ℕ) (body : List ℕ) (o : Outcome (Result ℕ Refusal) Memory) : Type 0 where
  pub answer : o.answer ≡ Ok (pair_at body 0)
  pub numbers : NumbersStored size width n body o.memory.streak o.memory.streak_place o.memory.pattern
      o.memory.pattern_place o.memory.hit
  pub interval : FrontHeld (part (2 + n + 5 * size) n body) byte_sentinel o.memory.interval
  pub cleared : Cleared n o.memory.work o.memory.scratch

-- the bytes of an encode case
unfoldable pub EncodeForm : Head → List ℕ → Type 0
EncodeForm h body = Formed Encode 1 2 (2 + 2 * h.objects + 5 * column_size h.objects h.width) h (length body)

-- a case with this head and this body, in slices with so many places to spare
unfoldable pub EncodeHolds : Head → List ℕ → ℕ → Type 0
EncodeHolds h body spare =
    let n : ℕ = h.objects in
    let size : ℕ = column_size n h.width in
    Holds n (EncodeForm h body)
    (EncodeStored size h.width n body (encode_outcome base_settings (encode_chart n body) (encode_lent n spare)))
