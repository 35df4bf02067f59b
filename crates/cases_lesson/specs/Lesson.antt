-- When a stored lesson of a colour case's chart holds: on that chart, with the pairs that its bytes say and slices full
-- of sentinels, the call's definition gives the stored means and tenths, and the original's values.
use Rattle.std.specs.Prelude.{◌≡◌, List, map, ℕ, ◌+◌, ◌*◌, ◌≤◌, ℤ, pos, neg_ℤ, length, replicate, Float, Result, Ok}
use Rattle.std.specs.Float.{binary64}
use Rattle.std.specs.Float.Ieee.{to_bits}
use Rattle.std.specs.Int.{w64, cast_unsigned}
use Rattle.grouping_chart.specs.Outcome.{Outcome}
use Rattle.grouping_chart.specs.Settings.{base_settings}
use Rattle.grouping_chart.specs.declared.refusal.Refusal.{Refusal}
use Rattle.call_lesson.specs.Lesson.{Stretches, stretches, most_pairs}
use Rattle.call_lesson.specs.Call.{Memory, lesson_outcome}
use Rattle.vectors.specs.Case.{pair_at, column_size, column, words}
use Rattle.vectors.specs.Held.{FrontHeld}
use Rattle.vectors.specs.declared.call.Call.TheVariants.{Lesson as LessonCall}
use Rattle.vectors.specs.declared.case.Head.{Head}
use Rattle.vectors.specs.Form.{PartFormed, Holds}
use Rattle.vectors.specs.Sentinel.{float_sentinel, floats_lent}
use Rattle.cases_colour.specs.Colour.{colour_chart, colour_lent, ValuesHeld, ColourForm}

-- ---- what is stored

-- what tenths are lent with, which is no answer: ten times a mean is at most 838,860,850 in size
abbrev pub tenths_sentinel : ℤ
tenths_sentinel = neg_ℤ (pos 1000000000000000000)

-- behind how many pairs there are stand the offsets and the lengths, which have two bytes each
unfoldable pub stored_pairs : List ℕ → Stretches
stored_pairs part =
    let pairs : ℕ = pair_at part 0 in
    stretches (column part 2 2 pairs) (column part (2 + 2 * pairs) 2 pairs)

-- and behind these the means by their bits, then the tenths, whose sign is in the highest of their bits
pub record AnswersHeld (part : List ℕ) (mean : List Float) (told : List ℤ) : Type 0 where
  pub means : FrontHeld (words part (2 + 4 * pair_at part 0) (pair_at part 0)) (to_bits binary64 float_sentinel)
      (map (to_bits binary64) mean)
  pub tenths : FrontHeld (words part (2 + 12 * pair_at part 0) (pair_at part 0)) (cast_unsigned w64 tenths_sentinel)
      (map (cast_unsigned w64) told)

-- ---- what is compared

-- the lesson is accepted; its answers, the values of the body, and cleared work slices
pub record LessonStored (size n : ℕ) (body part : List ℕ) (o : Outcome (Result (Unit {0}) Refusal) Memory)
    : Type 0 where
  pub answer : o.answer ≡ Ok tt
  pub answers : AnswersHeld part o.memory.mean o.memory.tenths
  pub values : ValuesHeld size n body o.memory.colour

-- ---- the case

abbrev pub tenths_lent : ℕ → ℕ → List ℤ
tenths_lent pairs spare = replicate (pairs + spare) tenths_sentinel

-- so many places to spare in each slice
unfoldable pub lesson_lent : ℕ → ℕ → ℕ → Memory
lesson_lent n pairs spare = record {
  colour = colour_lent n spare;
  mean = floats_lent pairs spare;
  tenths = tenths_lent pairs spare;
}

-- the bytes of a lesson, of no more pairs than a lesson may have
pub record LessonForm (n : ℕ) (h : Head) (part : List ℕ) : Type 0 where
  pub form : PartFormed LessonCall 2 (2 + 20 * pair_at part 0) n h (length part)
  pub few : pair_at part 0 ≤ most_pairs

-- a lesson with this head and these bytes, of the chart of a colour case
unfoldable pub LessonHolds : Head → List ℕ → Head → List ℕ → ℕ → Type 0
LessonHolds chart body h part spare =
    let n : ℕ = chart.objects in
    let size : ℕ = column_size n chart.width in
    Holds n (ColourForm size chart body × LessonForm n h part)
    (LessonStored size n body part
    (lesson_outcome base_settings (colour_chart size chart.width n body) (stored_pairs part)
    (lesson_lent n (pair_at part 0) spare)))
