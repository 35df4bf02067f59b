-- The outcomes of record, case by case, over plain lists: a refusal leaves all as lent, and an accepted call has room in both slices and finite deltas.
use mathlib.Core.Path.{◌≡◌, refl}
use mathlib.Core.Bool.{Bool, true, false, cond}
use Prim.Native.Nat.{ℕ, ◌<◌}
use native.Mathlib.Omega.{arith}
use borrow.Author.Tests.{ltb-true}
use lib.Dec.{T, ltb}
use lib.ListN.{length, get_or}
use lib.Ieee.{Float, nan}
use lib.Ieee.Scale.{finite}
use Rattle.std.specs.Prelude.{Ok, Err}
use Rattle.lent.proofs.NeverLaws.{never}
use Rattle.numeric.specs.Range.{earliest, latest}
use Rattle.numeric.proofs.Values.{finite-between}
use Rattle.grouping_chart.specs.Chart.{Chart, size}
use Rattle.grouping_chart.specs.Refusal.{passed, accepted, time_good}
use Rattle.grouping_chart.specs.Outcome.{outcome}
use Rattle.grouping_chart.specs.Settings.{Settings}
use Rattle.grouping_chart.specs.declared.refusal.Reason.TheVariants.{BadWindow, OutOfRange}
use Rattle.grouping_chart.proofs.RangeLaws.{time_range}
use Rattle.grouping_chart.proofs.OutcomeLaws.{accommodated, nothing-refused, answered-done}
use Rattle.call_rhythm.proofs.TablesLaws.{accepted-tables, groups-counted}
use Rattle.call_record.specs.declared.GroupRecord.{GroupRecord}
use Rattle.call_record.specs.Record.{record_at}
use Rattle.call_record.specs.Call.{Memory, answer_lengths, judged, window_good, record_refusal, cleared, groups_of, record_outcome}
use Rattle.call_record.specs.passes.Found.{GroupRoom}

-- ---- a time in range is finite
finite_time : (x : Float) → T (time_good x) → T (finite x)
finite_time x t =
    let b = time_range x t in
    finite-between earliest x latest tt tt b.0 b.1

-- ---- what is known of an accepted call
pub lengths_same : (s : Settings) (c : Chart) (m : Memory) → judged s c m ≡ accepted → length c.deltas ≡ size c
lengths_same s c m h = (accommodated s c (answer_lengths m) _ _ h).chart.lengths.delta

-- ---- what is refused after the chart

-- the groups are counted by the notes' deltas
pub ruleset counts = (groups-counted)

module _ (window : Float) (g groups : ℕ) where
  group-below : record_refusal window g groups ≡ passed → g < groups
  unfolding record_refusal
  group-below e = go (window_good window) (ltb g groups) refl e
    where
      go : (good below : Bool) → ltb g groups ≡ below → cond good (cond below passed (Err OutOfRange)) (Err BadWindow) ≡ passed → g < groups
      go true true q e = ltb-true g groups q
      go true false q e = never (cc)
      go false below q e = never (cc)

-- ---- nothing is refused
module _ (s : Settings) (c : Chart) (m : Memory) (g : ℕ) (window : Float) (taken : judged s c m ≡ accepted)
    (none : record_refusal window g (groups_of s c) ≡ passed) where
  pub group_room : GroupRoom s.margin c.kinds c.starts c.deltas g m.work m.scratch
  group_room =
      let r = accommodated s c (answer_lengths m) _ _ taken in
      let good = r.chart in
      record {
        tables = accepted-tables m.work m.scratch r;
        numbers = λ i k. finite_time (get_or c.deltas i nan) (good.objects i nan (omega (arith, good.lengths.delta))).delta;
        there = group-below window g (groups_of s c) none;
      }

  pub outcome-done : {r : GroupRecord} {new : Memory} → r ≡ record_at s c.kinds c.starts c.deltas g window
      → new ≡ cleared (size c) m → outcome (Ok r) new ≡ record_outcome s c g window m
  unfolding record_outcome
  outcome-done d f = answered-done _ _ m (nothing-refused _ taken none) (λ t. outcome (Ok (d t)) (f t))
