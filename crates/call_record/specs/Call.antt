-- The call record (scope: Calls and what they fill): what it answers, and what every lent slice holds
-- afterwards. Refusals 8 and 9 are tested after 1 to 7.
use Rattle.std.specs.Prelude.{ℕ, Bool, cond, List, [], ltb, Float, Result, Err}
use Rattle.numeric.specs.Constants.{one64, thousand64}
use Rattle.numeric.specs.Range.{within}
use Rattle.grouping_chart.specs.Chart.{Chart, size}
use Rattle.grouping_chart.specs.Room.{cleared_work, cleared_scratch}
use Rattle.grouping_chart.specs.Outcome.{Outcome, judged_by, refused_then, answered}
use Rattle.grouping_chart.specs.Settings.{Settings}
use Rattle.grouping_chart.specs.Refusal.{Check, passed, Verdict}
use Rattle.grouping_chart.specs.declared.refusal.Reason.TheVariants.{BadWindow, OutOfRange}
use Rattle.grouping_chart.specs.declared.refusal.Refusal.{Refusal}
use Rattle.call_rhythm.specs.Rhythm.{groups_in}
use Rattle.call_record.specs.Record.{record_at}
use Rattle.call_record.specs.declared.GroupRecord.{GroupRecord}

-- the slices that are lent to be written: two work slices
pub record Memory : Type 0 where
  pub work : List ℕ
  pub scratch : List Float

-- the memory that is made of the two slices, in the order in which they are lent
abbrev pub memory : List ℕ → List Float → Memory
memory work scratch =
    record { work = work; scratch = scratch }

-- there are no answer slices
abbrev pub answer_lengths : Memory → List ℕ
answer_lengths m = []

abbrev pub judged : Settings → Chart → Memory → Verdict
judged s c m = judged_by s c (answer_lengths m) m.work m.scratch

-- the memory after an accepted call
unfoldable pub cleared : ℕ → Memory → Memory
cleared n m = record {
  work = cleared_work n m.work;
  scratch = cleared_scratch n m.scratch;
}

-- from 1.0 to 1,000.0: a NaN is not
unfoldable pub window_good : Float → Bool
window_good window = within one64 thousand64 window

-- why a window and a group number are refused, if they are: a window that is not good, then a number that no group has
unfoldable pub record_refusal : Float → ℕ → ℕ → Check
record_refusal window g groups =
    cond (window_good window) (cond (ltb g groups) passed (Err OutOfRange)) (Err BadWindow)

-- and it comes after what is refused of the chart
abbrev pub record_verdict : Verdict → Float → ℕ → ℕ → Verdict
record_verdict v window g groups = refused_then v (record_refusal window g groups)

-- how many groups a chart has
abbrev pub groups_of : Settings → Chart → ℕ
groups_of s c = groups_in s.margin c.kinds c.deltas

unfoldable pub record_outcome : Settings → Chart → ℕ → Float → Memory → Outcome (Result GroupRecord Refusal) Memory
record_outcome s c g window m =
    answered (record_verdict (judged s c m) window g (groups_of s c))
    (record_at s c.kinds c.starts c.deltas g window) (cleared (size c) m) m
