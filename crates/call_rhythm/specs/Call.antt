-- The call rhythm (scope: Calls and what they fill): what it answers, and what every lent slice holds afterwards.
use Rattle.std.specs.Prelude.{ℕ, List, [], ◌∷◌, length, Float, Result}
use Rattle.lent.specs.Over.{over}
use Rattle.grouping_chart.specs.Chart.{Chart}
use Rattle.grouping_chart.specs.Room.{cleared_work, cleared_scratch}
use Rattle.grouping_chart.specs.Outcome.{Outcome, judged_by, answered}
use Rattle.grouping_chart.specs.Settings.{Settings}
use Rattle.grouping_chart.specs.Refusal.{Verdict}
use Rattle.grouping_chart.specs.declared.refusal.Refusal.{Refusal}
use Rattle.call_rhythm.specs.Rhythm.{group_of, pattern_group_of, counts_of}
use Rattle.call_rhythm.specs.declared.tables.GroupCounts.{GroupCounts}
use Rattle.call_rhythm.specs.declared.GroupTotals.{GroupTotals}

-- the slices that are lent to be written: two answers and two work slices
pub record Memory : Type 0 where
  pub group : List ℕ
  pub pattern : List ℕ
  pub work : List ℕ
  pub scratch : List Float

-- the memory that is made of the four slices, in the order in which they are lent
abbrev pub memory : List ℕ → List ℕ → List ℕ → List Float → Memory
memory group pattern work scratch =
    record { group = group; pattern = pattern; work = work; scratch = scratch }

-- how many places the answer slices have
abbrev pub answer_lengths : Memory → List ℕ
answer_lengths m = length m.group ∷ length m.pattern ∷ []

abbrev pub judged : Settings → Chart → Memory → Verdict
judged s c m = judged_by s c (answer_lengths m) m.work m.scratch

-- the memory after an accepted call, by the chart's kinds, starts and deltas
unfoldable pub filled : Settings → List ℕ → List Float → List Float → Memory → Memory
filled s kinds starts deltas m = record {
  group = over (group_of s.margin kinds deltas) m.group;
  pattern = over (pattern_group_of s.margin kinds starts deltas) m.pattern;
  work = cleared_work (length kinds) m.work;
  scratch = cleared_scratch (length kinds) m.scratch;
}

-- the two numbers that an accepted call answers
abbrev pub totals : GroupCounts → GroupTotals
totals k = record { groups = k.groups; patterns = k.patterns }

unfoldable pub rhythm_outcome : Settings → Chart → Memory → Outcome (Result GroupTotals Refusal) Memory
rhythm_outcome s c m =
    answered (judged s c m) (totals (counts_of s.margin c.kinds c.starts c.deltas))
    (filled s c.kinds c.starts c.deltas m) m
