-- A permitted set and the same set without signs give one outcome of record: they have the same groups and penalties, and refuse the same.
use mathlib.Core.Path.{◌≡◌}
use mathlib.Core.List.{[]}
use Prim.Native.Nat.{ℕ}
use lib.ListN.{length, get_or}
use lib.Ieee.{Float, nan}
use Rattle.grouping_chart.specs.Chart.{Chart, size}
use Rattle.grouping_chart.specs.Outcome.{answered}
use Rattle.grouping_chart.specs.Settings.{Settings, Permitted, unsigned}
use Rattle.grouping_chart.proofs.SettingsLaws.{InRanges, in_ranges}
use Rattle.grouping_chart.proofs.UnsignedLaws.{margin_not_negative, threshold_not_negative, judged_unsigned}
use Rattle.grouping_same_rhythm.specs.Own.{ratio_of, recent_of}
use Rattle.grouping_same_rhythm.proofs.UnsignedLaws.{owns_unsigned, objects_unsigned, deltas_unsigned, intervals_unsigned, pattern_unsigned}
use Rattle.evaluator_rhythm.proofs.UnsignedLaws.{penalty_unsigned}
use Rattle.call_rhythm.proofs.UnsignedLaws.{groups_unsigned}
use Rattle.call_record.specs.Record.{objects_in, owns_at, duration_of, record_at}
use Rattle.call_record.specs.Call.{Memory, answer_lengths, cleared, record_verdict, record_outcome}

module _ {s : Settings} (r : InRanges s) where
  in_unsigned : objects_in s.margin ≡ objects_in (unsigned s).margin
  unfolding objects_in
  in_unsigned = λ i kinds deltas g. get_or (objects_unsigned (margin_not_negative r) i kinds deltas) g []

  recent_unsigned : owns_at s.margin ≡ owns_at (unsigned s).margin
  unfolding owns_at
  recent_unsigned = λ i kinds deltas. recent_of (owns_unsigned (margin_not_negative r) i (deltas_unsigned (margin_not_negative r) i kinds deltas))

  at_unsigned : record_at s ≡ record_at (unsigned s)
  unfolding record_at
  at_unsigned = λ i kinds starts deltas g window.
      let objects = in_unsigned i kinds deltas g in
      let owns = recent_unsigned i kinds deltas g in
      let intervals = intervals_unsigned (margin_not_negative r) i kinds starts deltas in
      let pattern = pattern_unsigned (margin_not_negative r) i intervals g in
      record {
        first = record { 0 = get_or objects 0 0 };
        notes = length objects;
        own = owns.newest;
        ratio = ratio_of owns.newest owns.second;
        interval = get_or intervals g nan;
        penalty = penalty_unsigned (threshold_not_negative r) i owns (length objects) (duration_of starts objects) window;
        pattern = pattern.number;
        patternratio = pattern.ratio;
      }

pub record_unsigned : (s : Settings) → Permitted s → (c : Chart) (g : ℕ) (window : Float) (m : Memory)
    → record_outcome s c g window m ≡ record_outcome (unsigned s) c g window m
unfolding record_outcome
record_unsigned s p c g window m =
    let r = in_ranges p in
    λ i. answered (record_verdict (judged_unsigned r i c (answer_lengths m) m.work m.scratch) window g (groups_unsigned r i c.kinds c.deltas))
    (at_unsigned r i c.kinds c.starts c.deltas g window) (cleared (size c) m) m
