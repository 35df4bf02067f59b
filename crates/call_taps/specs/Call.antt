-- The call taps (change requests: 6/12): what it answers, and what every lent slice holds afterwards.
use Rattle.std.specs.Prelude.{ℕ, cond, List, [], ◌∷◌, length, Float, Option, Some, None, Result}
use Rattle.lent.specs.Over.{over}
use Rattle.grouping_chart.specs.Room.{refusal_beside, cleared_work, cleared_scratch}
use Rattle.grouping_chart.specs.Outcome.{Outcome, answered}
use Rattle.grouping_chart.specs.Settings.{Settings}
use Rattle.grouping_chart.specs.Refusal.{Verdict}
use Rattle.grouping_chart.specs.declared.refusal.Refusal.{Refusal}
use Rattle.call_taps.specs.Taps.{TapChart, tap_size, is_open, pairs_of, tap_groups_of, tap_groups_in}
use Rattle.call_taps.specs.Refusals.{tap_verdict}

-- the slices that are lent to be written: two answers and two work slices
pub record Memory : Type 0 where
  pub pair : List ℕ
  pub group : List ℕ
  pub work : List ℕ
  pub scratch : List Float

-- the memory that is made of the four slices, in the order in which they are lent
abbrev pub memory : List ℕ → List ℕ → List ℕ → List Float → Memory
memory pair group work scratch =
    record { pair = pair; group = group; work = work; scratch = scratch }

-- how many places the answer slices have
abbrev pub answer_lengths : Memory → List ℕ
answer_lengths m = length m.pair ∷ length m.group ∷ []

abbrev pub judged : Settings → TapChart → Memory → Verdict
judged s t m = tap_verdict t (refusal_beside s (tap_size t) (answer_lengths m) (length m.work) (length m.scratch))

-- how many groups there are, where that is known
abbrev pub known_groups : Float → TapChart → Option ℕ
known_groups margin t = cond (is_open margin t) None (Some (tap_groups_in margin t))

-- the memory after an accepted call: the group slice is as lent where the groups are not known
unfoldable pub filled : Settings → TapChart → Memory → Memory
filled s t m = record {
  pair = over (pairs_of s.margin t) m.pair;
  group = cond (is_open s.margin t) m.group (over (tap_groups_of s.margin t) m.group);
  work = cleared_work (tap_size t) m.work;
  scratch = cleared_scratch (tap_size t) m.scratch;
}

unfoldable pub taps_outcome : Settings → TapChart → Memory → Outcome (Result (Option ℕ) Refusal) Memory
taps_outcome s t m = answered (judged s t m) (known_groups s.margin t) (filled s t m) m
