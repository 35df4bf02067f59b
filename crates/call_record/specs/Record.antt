-- The record of one rhythm group (scope: Calls and what they fill): its first note, by the number of its
-- object, how many notes it has, its own interval, ratio, interval, penalty, pattern group and pattern ratio.
use Rattle.std.specs.Prelude.{ℕ, ◌-◌, List, [], length, get_or, Float}
use Rattle.std.specs.Float.{nan, binary64}
use Rattle.std.specs.Float.Ieee.{sub}
use Rattle.grouping_chart.specs.Settings.{Settings}
use Rattle.grouping_same_rhythm.specs.Own.{owns_of, ratio_of}
use Rattle.grouping_same_rhythm.specs.SameRhythm.{group_objects, group_deltas, group_intervals}
use Rattle.grouping_same_rhythm.specs.SamePatterns.{pattern_of}
use Rattle.grouping_same_rhythm.specs.Own.{recent_of}
use Rattle.grouping_same_rhythm.specs.declared.owns.Recent.{Recent}
use Rattle.evaluator_rhythm.specs.RepeatedInterval.{repeated_interval_penalty}
use Rattle.call_record.specs.declared.GroupRecord.{GroupRecord}

-- the objects of group g's notes
unfoldable pub objects_in : Float → List ℕ → List Float → ℕ → List ℕ
objects_in margin kinds deltas g = get_or (group_objects margin kinds deltas) g []

-- the own intervals of group g and of the three groups before it
unfoldable pub owns_at : Float → List ℕ → List Float → ℕ → Recent
owns_at margin kinds deltas g = recent_of (owns_of margin (group_deltas margin kinds deltas)) g

-- the last start minus the first
unfoldable pub duration_of : List Float → List ℕ → Float
duration_of starts objects =
    sub binary64 (get_or starts (get_or objects (length objects - 1) 0) nan) (get_or starts (get_or objects 0 0) nan)

-- the record of group g, for a window
unfoldable pub record_at : Settings → List ℕ → List Float → List Float → ℕ → Float → GroupRecord
record_at s kinds starts deltas g window =
    let objects = objects_in s.margin kinds deltas g in
    let owns = owns_at s.margin kinds deltas g in
    let intervals = group_intervals s.margin kinds starts deltas in
    record {
      first = record { 0 = get_or objects 0 0 };
      notes = length objects;
      own = owns.newest;
      ratio = ratio_of owns.newest owns.second;
      interval = get_or intervals g nan;
      penalty = repeated_interval_penalty s.threshold owns (length objects) (duration_of starts objects) window;
      pattern = (pattern_of s.margin intervals g).number;
      patternratio = (pattern_of s.margin intervals g).ratio;
    }
