-- The call build (change requests: 1/12): what it answers, and what every lent slice holds afterwards.
use Rattle.std.specs.Prelude.{ℕ, Bool, false, cond, List, [], ◌∷◌, eqb, ltb, pos, negsuc, length, take, Float, Err}
use Rattle.std.specs.Prelude.{Result}
use Rattle.std.specs.Float.{fin}
use Rattle.lent.specs.Over.{over}
use Rattle.numeric.specs.Range.{within}
use Rattle.grouping_chart.specs.Chart.{Chart}
use Rattle.grouping_chart.specs.Refusal.{Check, passed, Verdict, in_order, objects_verdict}
use Rattle.grouping_chart.specs.Room.{any_short}
use Rattle.grouping_chart.specs.Outcome.{Outcome, answered}
use Rattle.grouping_chart.specs.declared.refusal.Reason.TheVariants.{ShortSlice, BadRate}
use Rattle.grouping_chart.specs.declared.refusal.Refusal.{Refusal}
use Rattle.call_build.specs.Build.{Raw, built_size, built_chart}

-- the slices that are lent to be written, all of them answers
pub record Memory : Type 0 where
  pub kind : List ℕ
  pub start : List Float
  pub delta : List Float
  pub ratio : List Float

-- the memory that is made of the four slices, in the order in which they are lent
abbrev pub memory : List ℕ → List Float → List Float → List Float → Memory
memory kind start delta ratio =
    record { kind = kind; start = start; delta = delta; ratio = ratio }

-- how many places the answer slices have
abbrev pub answer_lengths : Memory → List ℕ
answer_lengths m = length m.kind ∷ length m.start ∷ length m.delta ∷ length m.ratio ∷ []

-- the most raw objects that are taken: the first two build none
abbrev pub largest_raw : ℕ
largest_raw = 16386

-- from 0.25 to 4.0
unfoldable pub rate_good : Float → Bool
rate_good rate = within (fin false 1 (negsuc 1)) (fin false 1 (pos 2)) rate

-- what is refused beside the objects, if anything is: an answer slice that is too short for them, then the rate
unfoldable pub beside_refusal : Bool → Float → Check
beside_refusal short rate = cond short (Err ShortSlice) (cond (rate_good rate) passed (Err BadRate))

-- the verdict on a call, where `short` says that an answer slice is too short: the tests of every call, in their order
unfoldable pub verdict_of : Float → Raw → Bool → Verdict
verdict_of rate r short =
    in_order (ltb largest_raw (length r.kinds)) (eqb (length r.times) (length r.kinds))
    (beside_refusal short rate) (objects_verdict (built_chart rate r))

abbrev pub judged : Float → Raw → Memory → Verdict
judged rate r m = verdict_of rate r (any_short (built_size r) (answer_lengths m))

-- the memory after an accepted call: the built chart over the front of what was lent
unfoldable pub filled : Chart → Memory → Memory
filled c m = record {
  kind = over c.kinds m.kind;
  start = over c.starts m.start;
  delta = over c.deltas m.delta;
  ratio = over c.ratios m.ratio;
}

-- the chart in the first n places of the four slices, as a host lends it to another call
abbrev pub chart_in : ℕ → Memory → Chart
chart_in n m = record {
  kinds = take n m.kind;
  starts = take n m.start;
  deltas = take n m.delta;
  ratios = take n m.ratio;
}

-- the answer is how many objects are built
unfoldable pub build_outcome : Float → Raw → Memory → Outcome (Result ℕ Refusal) Memory
build_outcome rate r m = answered (judged rate r m) (built_size r) (filled (built_chart rate r) m) m
