-- When a stored case of colour, or of a stretch of its chart, holds: on the chart that its bytes say and slices
-- full of sentinels the call's definition gives the original's answer.
use Rattle.std.specs.Prelude.{◌≡◌, cond, List, map, ℕ, ◌+◌, ◌-◌, ◌*◌, ltb, ℤ, pos, neg_ℤ, length, replicate, Float}
use Rattle.std.specs.Prelude.{Result, Ok, Err}
use Rattle.std.specs.Float.{binary64}
use Rattle.std.specs.Float.Ieee.{to_bits}
use Rattle.lent.specs.Over.{part}
use Rattle.numeric.specs.Constants.{one64}
use Rattle.grouping_chart.specs.Chart.{Chart}
use Rattle.grouping_chart.specs.declared.refusal.Refusal.{Refusal}
use Rattle.grouping_chart.specs.Settings.{base_settings}
use Rattle.call_colour.specs.Call.{Memory, colour_outcome, stretch_outcome}
use Rattle.call_colour.specs.declared.StretchMean.{StretchMean}
use Rattle.vectors.specs.Case.{pair_at, quad_at, word_at, column_size, column, words}
use Rattle.vectors.specs.Held.{FrontHeld}
use Rattle.vectors.specs.Table.{entries}
use Rattle.vectors.specs.declared.call.Call.TheVariants.{Colour as ColourCall, Stretch}
use Rattle.vectors.specs.declared.case.Head.{Head}
use Rattle.vectors.specs.Form.{Formed, PartFormed, Holds}
use Rattle.vectors.specs.Sentinel.{float_sentinel, floats_lent, work_lent, Cleared}
use Rattle.cases_colour.specs.declared.StoredStretch.{StoredStretch}
use Rattle.cases_colour.specs.declared.Asked.{Asked}
use Rattle.cases_colour.specs.declared.Asked.TheVariants as asked

-- ---- what is stored

-- behind a number and the kinds stand a column of so many bytes, the values, and the table of ratios that the column
-- names, which has as many as the number says; starts and deltas are not stored, since no value looks at them
unfoldable pub stored_ratios : ℕ → ℕ → ℕ → List ℕ → List Float
stored_ratios size width n body =
    entries (words body (2 + n + size + 8 * n) (pair_at body 0)) (column body (2 + n) width n)

unfoldable pub colour_chart : ℕ → ℕ → ℕ → List ℕ → Chart
colour_chart size width n body = record {
  kinds = part 2 n body;
  starts = replicate n one64;
  deltas = replicate n one64;
  ratios = stored_ratios size width n body;
}

-- four bytes as a number with a sign
unfoldable pub signed_of : ℕ → ℤ
signed_of x = cond (ltb x 2147483648) (pos x) (neg_ℤ (pos (4294967296 - x)))

-- a stretch: its two ends, the bits of its mean, and the tenths
unfoldable pub stretch_of : List ℕ → StoredStretch
stretch_of stored =
    record { a = pair_at stored 0; b = pair_at stored 2; mean = word_at stored 4; tenths = quad_at stored 12 }

-- ---- what is compared

-- the mean by its bits, and the tenths
abbrev pub FoundIs : StoredStretch → StretchMean → Type 0
FoundIs s found = (to_bits binary64 found.mean ≡ s.mean) × (found.tenths ≡ signed_of s.tenths)

unfoldable pub MeanIs : StoredStretch → Result StretchMean Refusal → Type 0
MeanIs s (Ok found) = FoundIs s found
MeanIs s (Err first) = ⊥

-- the call that is asked accepts the chart, and answers as the original did
unfoldable pub Answers : Asked → Chart → Memory → Type 0
Answers asked.Colour c m = (colour_outcome base_settings c m).answer ≡ Ok tt
Answers (asked.Stretched s) c m = MeanIs s (stretch_outcome base_settings c s.a s.b m).answer

-- the slices after it
unfoldable pub leaves : Asked → Chart → Memory → Memory
leaves asked.Colour c m = (colour_outcome base_settings c m).memory
leaves (asked.Stretched s) c m = (stretch_outcome base_settings c s.a s.b m).memory

-- the values of the body, by their bits, and cleared work slices
pub record ValuesHeld (size n : ℕ) (body : List ℕ) (m : Memory) : Type 0 where
  pub values : FrontHeld (words body (2 + n + size) n) (to_bits binary64 float_sentinel)
      (map (to_bits binary64) m.value)
  pub cleared : Cleared n m.work m.scratch

pub record CallStored (call : Asked) (size n : ℕ) (body : List ℕ) (c : Chart) (m : Memory) : Type 0 where
  pub answer : Answers call c m
  pub memory : ValuesHeld size n body (leaves call c m)

-- ---- the cases

-- so many places to spare in each slice
unfoldable pub colour_lent : ℕ → ℕ → Memory
colour_lent n spare = record {
  value = floats_lent n spare;
  work = work_lent n spare;
  scratch = floats_lent n spare;
}

-- the bytes of a colour case, by the size of its column
unfoldable pub ColourForm : ℕ → Head → List ℕ → Type 0
ColourForm size h body = Formed ColourCall 1 2 (2 + 9 * h.objects + size + 8 * pair_at body 0) h (length body)

unfoldable pub ColourHolds : Head → List ℕ → ℕ → Type 0
ColourHolds h body spare =
    let n : ℕ = h.objects in
    let size : ℕ = column_size n h.width in
    Holds n (ColourForm size h body)
    (CallStored asked.Colour size n body (colour_chart size h.width n body) (colour_lent n spare))

-- a stretch with this head and these bytes, of the chart of a colour case
unfoldable pub StretchHolds : Head → List ℕ → Head → List ℕ → ℕ → Type 0
StretchHolds chart body h stored spare =
    let n : ℕ = chart.objects in
    let size : ℕ = column_size n chart.width in
    Holds n (ColourForm size chart body × PartFormed Stretch 1 16 n h (length stored))
    (CallStored (asked.Stretched (stretch_of stored)) size n body
    (colour_chart size chart.width n body) (colour_lent n spare))
