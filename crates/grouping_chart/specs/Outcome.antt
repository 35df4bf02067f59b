-- What a call on a chart comes to: its answer, and the lent memory afterwards. A refusal leaves all memory as it was
-- lent (demand 1; scope: "Refused by number").
use Rattle.std.specs.Prelude.{ℕ, List, length, Float, Result, Ok, Err}
use Rattle.grouping_chart.specs.Chart.{Chart, size}
use Rattle.grouping_chart.specs.Refusal.{Check, Verdict, accepted, and_then, refused_or, verdict}
use Rattle.grouping_chart.specs.Room.{refusal_beside}
use Rattle.grouping_chart.specs.Settings.{Settings}
use Rattle.grouping_chart.specs.declared.refusal.Refusal.{Refusal}

pub record Outcome (Answer Memory : Type 0) : Type 0 where
  pub answer : Answer
  pub memory : Memory

abbrev pub outcome : {Answer Memory : Type 0} → Answer → Memory → Outcome Answer Memory
outcome a m = record { answer = a; memory = m }

-- the verdict on a call by its settings, its chart, how many places each of its answer slices has, and its two work
-- slices
abbrev pub judged_by : Settings → Chart → List ℕ → List ℕ → List Float → Verdict
judged_by s c answers work scratch = verdict c (refusal_beside s (size c) answers (length work) (length scratch))

-- what a call refuses of what it is asked beside the chart comes after what is refused of the chart
unfoldable pub refused_then : Verdict → Check → Verdict
refused_then v asked = and_then v (refused_or asked 0 accepted)

-- what a call with this verdict comes to, where it comes to an answer and memory if accepted: a refusal leaves all as
-- lent
unfoldable pub answered : {Answer Memory : Type 0} → Verdict → Answer → Memory → Memory
    → Outcome (Result Answer Refusal) Memory
answered (Ok done) answer filled lent = outcome (Ok answer) filled
answered (Err first) answer filled lent = outcome (Err first) lent
