-- Pattern groups: rhythm groups, grouped by their intervals as notes are by their deltas (scope:
-- same_patterns_grouped_hit_objects.rs). A pattern is the list of its groups' intervals.
use Rattle.std.specs.Prelude.{ℕ, zero, suc, List, [], ◌∷◌, get_or, Float}
use Rattle.std.specs.Float.{nan, binary64}
use Rattle.std.specs.Float.Ieee.{div}
use Rattle.numeric.specs.Constants.{one64}
use Rattle.grouping_marks.specs.Marks.{group_numbers}
use Rattle.grouping_marks.specs.Parted.{parted}
use Rattle.grouping_interval.specs.IntervalGrouping.{interval_marks}
use Rattle.grouping_same_rhythm.specs.declared.patterns.Pattern.{Pattern}

-- a pattern has a first group
unfoldable pub pattern_interval : List Float → Float
pattern_interval [] = nan
pattern_interval (first ∷ []) = first
pattern_interval (first ∷ second ∷ intervals) = second

-- of pattern number p
unfoldable pub pattern_ratio : List (List Float) → ℕ → Float
pattern_ratio patterns zero = one64
pattern_ratio patterns (suc p) =
    div binary64 (pattern_interval (get_or patterns (suc p) [])) (pattern_interval (get_or patterns p []))

-- the number of group g's pattern
unfoldable pub pattern_number : Float → List Float → ℕ → ℕ
pattern_number margin intervals g = get_or (group_numbers (interval_marks margin intervals)) g 0

-- group g's pattern
unfoldable pub pattern_of : Float → List Float → ℕ → Pattern
pattern_of margin intervals g = record {
  number = pattern_number margin intervals g;
  ratio = pattern_ratio (parted (interval_marks margin intervals) intervals) (pattern_number margin intervals g);
}
