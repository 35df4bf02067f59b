-- The call lesson (change requests: 9/12): what it answers, and what every lent slice holds afterwards.
use Rattle.std.specs.Prelude.{ℕ, ◌||◌, Bool, List, [], ◌∷◌, length, map, Float, ℤ, Result}
use Rattle.lent.specs.Over.{over}
use Rattle.grouping_chart.specs.Chart.{Chart, size}
use Rattle.grouping_chart.specs.Room.{any_short, short_refusal}
use Rattle.grouping_chart.specs.Outcome.{Outcome, answered}
use Rattle.grouping_chart.specs.Settings.{Settings, settings_refusal}
use Rattle.grouping_chart.specs.Refusal.{Check, Verdict, and_then, verdict}
use Rattle.grouping_chart.specs.declared.refusal.Refusal.{Refusal}
use Rattle.call_colour.specs.Call as colour
use Rattle.call_lesson.specs.Lesson.{Stretches, pair_count, pairs, count_refusal, lesson_verdict}
use Rattle.call_lesson.specs.Lesson.{pair_mean, pair_tenths}

-- the slices that are lent to be written: those of the call colour, and two answers with a place for each pair
pub record Memory : Type 0 where
  pub colour : colour.Memory
  pub mean : List Float
  pub tenths : List ℤ

-- the memory that is made of the five slices, in the order in which they are lent
abbrev pub memory : List Float → List Float → List ℤ → List ℕ → List Float → Memory
memory value mean tenths work scratch =
    record { colour = colour.memory value work scratch; mean = mean; tenths = tenths }

-- whether an answer slice is too short
abbrev pub answers_short : Chart → Stretches → Memory → Bool
answers_short c l m =
    any_short (size c) (colour.answer_lengths m.colour)
    || any_short (pair_count l) (length m.mean ∷ length m.tenths ∷ [])

-- what is refused beside the chart: first that offsets and lengths are not of one number, so that all of 2 comes
-- before 3
abbrev pub beside : Settings → Chart → Stretches → Memory → Check
beside s c l m =
    and_then (count_refusal l)
    (and_then (short_refusal (answers_short c l m) (size c) (length m.colour.work) (length m.colour.scratch))
    (settings_refusal s))

abbrev pub judged : Settings → Chart → Stretches → Memory → Verdict
judged s c l m = lesson_verdict (verdict c (beside s c l m)) c.kinds l

-- the memory after an accepted call
unfoldable pub filled : Settings → Chart → Stretches → Memory → Memory
filled s c l m = record {
  colour = colour.filled s c.kinds c.ratios m.colour;
  mean = over (map (pair_mean s c) (pairs l)) m.mean;
  tenths = over (map (pair_tenths s c) (pairs l)) m.tenths;
}

unfoldable pub lesson_outcome : Settings → Chart → Stretches → Memory → Outcome (Result (Unit {0}) Refusal) Memory
lesson_outcome s c l m = answered (judged s c l m) tt (filled s c l m) m
