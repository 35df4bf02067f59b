-- The call turns (change requests: 8/12): what it answers, and what every lent slice holds afterwards.
use Rattle.std.specs.Prelude.{ℕ, List, [], ◌∷◌, length, Float, Result}
use Rattle.lent.specs.Over.{over}
use Rattle.grouping_chart.specs.Chart.{Chart}
use Rattle.grouping_chart.specs.Room.{cleared_work, cleared_scratch}
use Rattle.grouping_chart.specs.Outcome.{Outcome, judged_by, answered}
use Rattle.grouping_chart.specs.Settings.{Settings}
use Rattle.grouping_chart.specs.Refusal.{Verdict}
use Rattle.grouping_chart.specs.declared.refusal.Refusal.{Refusal}
use Rattle.call_turns.specs.Turns.{previous_changes, next_changes}

-- the slices that are lent to be written: two answers and two work slices
pub record Memory : Type 0 where
  pub previous : List ℕ
  pub next : List ℕ
  pub work : List ℕ
  pub scratch : List Float

-- the memory that is made of the four slices, in the order in which they are lent
abbrev pub memory : List ℕ → List ℕ → List ℕ → List Float → Memory
memory previous next work scratch = record { previous = previous; next = next; work = work; scratch = scratch }

-- how many places the answer slices have
abbrev pub answer_lengths : Memory → List ℕ
answer_lengths m = length m.previous ∷ length m.next ∷ []

abbrev pub judged : Settings → Chart → Memory → Verdict
judged s c m = judged_by s c (answer_lengths m) m.work m.scratch

-- the memory after an accepted call, by the chart's kinds
unfoldable pub filled : List ℕ → Memory → Memory
filled kinds m = record {
  previous = over (previous_changes kinds) m.previous;
  next = over (next_changes kinds) m.next;
  work = cleared_work (length kinds) m.work;
  scratch = cleared_scratch (length kinds) m.scratch;
}

unfoldable pub turns_outcome : Settings → Chart → Memory → Outcome (Result (Unit {0}) Refusal) Memory
turns_outcome s c m = answered (judged s c m) tt (filled c.kinds m) m
