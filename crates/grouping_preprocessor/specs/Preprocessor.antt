-- Scope, color/preprocessor.rs: the levels of a chart's kinds, from streaks to hit patterns, and an object's six
-- numbers: its streak and alternating pattern, each with its place in the level above, its hit pattern, the interval.
use Rattle.std.specs.Prelude.{ℕ, List}
use Rattle.lent.specs.Scan.{gathered}
use Rattle.grouping_marks.specs.Marks.{group_count, group_numbers, group_places, group_sizes, group_firsts}
use Rattle.grouping_hits.specs.RepeatingHitPatterns.{hit_marks, second_lengths, intervals}
use Rattle.grouping_colour.specs.MonoStreak.{streak_of, streak_lengths, streak_types}
use Rattle.grouping_colour.specs.AlternatingMonoPattern.{pattern_marks, coupled}

-- which streaks open an alternating pattern; of each pattern its first streak's length, its streak count and its type
unfoldable pub patterns_open : List ℕ → List ℕ
patterns_open kinds = pattern_marks (streak_lengths kinds)

unfoldable pub first_lengths : List ℕ → List ℕ
first_lengths kinds = group_firsts (patterns_open kinds) (streak_lengths kinds)

unfoldable pub streak_counts : List ℕ → List ℕ
streak_counts kinds = group_sizes (patterns_open kinds)

unfoldable pub pattern_types : List ℕ → List ℕ
pattern_types kinds = group_firsts (patterns_open kinds) (streak_types kinds)

-- which patterns are coupled, and which open a hit pattern
unfoldable pub coupled_patterns : List ℕ → List ℕ
coupled_patterns kinds = coupled (first_lengths kinds) (streak_counts kinds) (pattern_types kinds)

unfoldable pub hits_open : List ℕ → List ℕ
hits_open kinds = hit_marks (coupled_patterns kinds)

unfoldable pub hit_count : List ℕ → ℕ
hit_count kinds = group_count (hits_open kinds)

-- of each hit pattern how many patterns it holds and the first two's first-streak lengths; its interval under the limit
unfoldable pub hit_sizes : List ℕ → List ℕ
hit_sizes kinds = group_sizes (hits_open kinds)

unfoldable pub hit_firsts : List ℕ → List ℕ
hit_firsts kinds = group_firsts (hits_open kinds) (first_lengths kinds)

unfoldable pub hit_seconds : List ℕ → List ℕ
hit_seconds kinds = group_firsts (hits_open kinds) (second_lengths (first_lengths kinds) (hits_open kinds))

unfoldable pub hit_intervals : ℕ → List ℕ → List ℕ
hit_intervals limit kinds = intervals limit (hit_sizes kinds) (hit_firsts kinds) (hit_seconds kinds)

-- object by object
unfoldable pub streak_place_of : List ℕ → List ℕ
streak_place_of kinds = gathered (group_places (patterns_open kinds)) (streak_of kinds)

unfoldable pub alternating_of : List ℕ → List ℕ
alternating_of kinds = gathered (group_numbers (patterns_open kinds)) (streak_of kinds)

unfoldable pub pattern_place_of : List ℕ → List ℕ
pattern_place_of kinds = gathered (group_places (hits_open kinds)) (alternating_of kinds)

unfoldable pub hit_of : List ℕ → List ℕ
hit_of kinds = gathered (group_numbers (hits_open kinds)) (alternating_of kinds)

unfoldable pub interval_of : ℕ → List ℕ → List ℕ
interval_of limit kinds = gathered (hit_intervals limit kinds) (hit_of kinds)
