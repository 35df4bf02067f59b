-- What each list of the encoder is made of, an equation each, for crates above this one.
use mathlib.Core.Path.{◌≡◌, refl}
use mathlib.Core.List.{List}
use Prim.Native.Nat.{ℕ}
use Rattle.grouping_marks.specs.Marks.{group_count, group_sizes, group_firsts}
use Rattle.grouping_hits.specs.RepeatingHitPatterns.{hit_marks, second_lengths, intervals}
use Rattle.grouping_colour.specs.MonoStreak.{streak_lengths, streak_types}
use Rattle.grouping_colour.specs.AlternatingMonoPattern.{pattern_marks, coupled}
use Rattle.grouping_preprocessor.specs.Preprocessor.{patterns_open, first_lengths, streak_counts, pattern_types, coupled_patterns, hits_open, hit_count}
use Rattle.grouping_preprocessor.specs.Preprocessor.{hit_sizes, hit_firsts, hit_seconds, hit_intervals}

module _ (kinds : List ℕ) where
  pub patterns_open_made : patterns_open kinds ≡ pattern_marks (streak_lengths kinds)
  unfolding patterns_open
  patterns_open_made = refl

  pub first_lengths_made : first_lengths kinds ≡ group_firsts (patterns_open kinds) (streak_lengths kinds)
  unfolding first_lengths
  first_lengths_made = refl

  pub streak_counts_made : streak_counts kinds ≡ group_sizes (patterns_open kinds)
  unfolding streak_counts
  streak_counts_made = refl

  pub pattern_types_made : pattern_types kinds ≡ group_firsts (patterns_open kinds) (streak_types kinds)
  unfolding pattern_types
  pattern_types_made = refl

  pub coupled_patterns_made : coupled_patterns kinds ≡ coupled (first_lengths kinds) (streak_counts kinds) (pattern_types kinds)
  unfolding coupled_patterns
  coupled_patterns_made = refl

  pub hits_open_made : hits_open kinds ≡ hit_marks (coupled_patterns kinds)
  unfolding hits_open
  hits_open_made = refl

  pub hit_count_made : hit_count kinds ≡ group_count (hits_open kinds)
  unfolding hit_count
  hit_count_made = refl

  pub hit_sizes_made : hit_sizes kinds ≡ group_sizes (hits_open kinds)
  unfolding hit_sizes
  hit_sizes_made = refl

  pub hit_firsts_made : hit_firsts kinds ≡ group_firsts (hits_open kinds) (first_lengths kinds)
  unfolding hit_firsts
  hit_firsts_made = refl

  pub hit_seconds_made : hit_seconds kinds ≡ group_firsts (hits_open kinds) (second_lengths (first_lengths kinds) (hits_open kinds))
  unfolding hit_seconds
  hit_seconds_made = refl

  pub hit_intervals_made : (limit : ℕ) → hit_intervals limit kinds ≡ intervals limit (hit_sizes kinds) (hit_firsts kinds) (hit_seconds kinds)
  unfolding hit_intervals
  hit_intervals_made limit = refl
