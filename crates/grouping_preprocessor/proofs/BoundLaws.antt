-- How long the lists of patterns and hit patterns are, one number an object, and how far the numbers go: each is below its
-- level's count, and an interval is from 1 to the search limit less 1, or one above the limit.
use mathlib.Core.Path.{◌≡◌, refl, ◌∙◌}
use mathlib.Core.List.{List}
use Prim.Native.Nat.{ℕ, ◌≤◌, ◌<◌}
use native.Mathlib.Omega.{arith}
use lib.ListN.{length, get_or}
use Rattle.lent.specs.Scan.{gathered}
use Rattle.grouping_marks.specs.Marks.{group_count, group_numbers, group_places}
use Rattle.lent.proofs.FillLaws.{length-gathered, get_or-gathered}
use Rattle.grouping_marks.proofs.MarksLaws.{numbers-below, length-sizes, length-firsts}
use Rattle.grouping_hits.proofs.LengthLaws.{length-hit_marks, length-intervals}
use Rattle.grouping_hits.proofs.RangeLaws.{InReach, interval_range, interval_byte}
use Rattle.grouping_colour.specs.MonoStreak.{streak_marks, streak_of, streak_lengths}
use Rattle.grouping_preprocessor.specs.Preprocessor.{patterns_open, first_lengths, streak_counts, pattern_types, coupled_patterns, hits_open, hit_count}
use Rattle.grouping_preprocessor.specs.Preprocessor.{hit_sizes, hit_firsts, hit_seconds, hit_intervals, streak_place_of, alternating_of, pattern_place_of}
use Rattle.grouping_preprocessor.specs.Preprocessor.{hit_of}
use Rattle.grouping_preprocessor.specs.Preprocessor.{interval_of}
use Rattle.grouping_colour.proofs.LengthLaws.{length-pattern_marks, length-coupled}
use Rattle.grouping_colour.proofs.StreakListLaws.{length-streak_of, length-streak_lengths, streak-below}

-- ---- the levels of a chart's kinds
module _ (kinds : List ℕ) where
  one_mark_a_streak : length (patterns_open kinds) ≡ length (streak_lengths kinds)
  unfolding patterns_open
  one_mark_a_streak = length-pattern_marks (streak_lengths kinds)

  pub length-patterns_open : length (patterns_open kinds) ≡ group_count (streak_marks kinds)
  length-patterns_open = one_mark_a_streak ∙ length-streak_lengths kinds

  pub length-hits_open : length (hits_open kinds) ≡ group_count (patterns_open kinds)
  unfolding coupled_patterns hits_open first_lengths
  length-hits_open =
      length-hit_marks (coupled_patterns kinds) ∙ length-coupled (first_lengths kinds) (streak_counts kinds) (pattern_types kinds)
      ∙ length-firsts (patterns_open kinds) (streak_lengths kinds) (omega (arith, one_mark_a_streak))

  -- each number is below its level's count
  pub pattern-below : (j : ℕ) → j < group_count (streak_marks kinds) → get_or (group_numbers (patterns_open kinds)) j 0 < group_count (patterns_open kinds)
  pattern-below j h = numbers-below (patterns_open kinds) j (omega (arith, length-patterns_open))

  pub hit-below : (j : ℕ) → j < group_count (patterns_open kinds) → get_or (group_numbers (hits_open kinds)) j 0 < hit_count kinds
  unfolding hit_count
  hit-below j h = numbers-below (hits_open kinds) j (omega (arith, length-hits_open))

  pub hit-interval_range : (limit j : ℕ) → j < hit_count kinds → InReach limit (get_or (hit_intervals limit kinds) j 0)
  unfolding hit_intervals hit_sizes hit_count
  hit-interval_range limit j h = interval_range limit (hit_sizes kinds) (hit_firsts kinds) (hit_seconds kinds) j (omega (arith, length-sizes (hits_open kinds)))

  pub length-hit_intervals : (limit : ℕ) → length (hit_intervals limit kinds) ≡ hit_count kinds
  unfolding hit_intervals hit_sizes hit_count
  length-hit_intervals limit = length-intervals limit (hit_sizes kinds) (hit_firsts kinds) (hit_seconds kinds) ∙ length-sizes (hits_open kinds)

  pub hit-interval_byte : (limit : ℕ) → limit ≤ 254 → (j : ℕ) → get_or (hit_intervals limit kinds) j 0 < 256
  unfolding hit_intervals
  hit-interval_byte limit l j = interval_byte limit (hit_sizes kinds) (hit_firsts kinds) (hit_seconds kinds) l j

  pub length-alternating_of : length (alternating_of kinds) ≡ length kinds
  unfolding alternating_of
  length-alternating_of = length-gathered (group_numbers (patterns_open kinds)) (streak_of kinds) ∙ length-streak_of kinds

  pub length-hit_of : length (hit_of kinds) ≡ length kinds
  unfolding hit_of
  length-hit_of = length-gathered (group_numbers (hits_open kinds)) (alternating_of kinds) ∙ length-alternating_of

  pub length-interval_of : (limit : ℕ) → length (interval_of limit kinds) ≡ length kinds
  unfolding interval_of
  length-interval_of limit = length-gathered (hit_intervals limit kinds) (hit_of kinds) ∙ length-hit_of

  pub alternating_of-below : (i : ℕ) → i < length kinds → get_or (alternating_of kinds) i 0 < group_count (patterns_open kinds)
  unfolding alternating_of
  alternating_of-below i h =
      rw (get_or-gathered (group_numbers (patterns_open kinds)) (streak_of kinds) i (omega (arith, length-streak_of kinds)))
      (pattern-below (get_or (streak_of kinds) i 0) (streak-below kinds i h))

  pub hit_of-below : (i : ℕ) → i < length kinds → get_or (hit_of kinds) i 0 < hit_count kinds
  unfolding hit_of
  hit_of-below i h =
      rw (get_or-gathered (group_numbers (hits_open kinds)) (alternating_of kinds) i (omega (arith, length-alternating_of)))
      (hit-below (get_or (alternating_of kinds) i 0) (alternating_of-below i h))

  -- each object has its hit pattern's
  pub interval_of_range : (limit i : ℕ) → i < length kinds → InReach limit (get_or (interval_of limit kinds) i 0)
  unfolding interval_of
  interval_of_range limit i h =
      rw (get_or-gathered (hit_intervals limit kinds) (hit_of kinds) i (omega (arith, length-hit_of)))
      (hit-interval_range limit (get_or (hit_of kinds) i 0) (hit_of-below i h))

  -- ---- each object's numbers, looked up level by level
  pub streak_place_of_looked : gathered (group_places (patterns_open kinds)) (streak_of kinds) ≡ streak_place_of kinds
  unfolding streak_place_of
  streak_place_of_looked = refl

  pub alternating_of_looked : gathered (group_numbers (patterns_open kinds)) (streak_of kinds) ≡ alternating_of kinds
  unfolding alternating_of
  alternating_of_looked = refl

  pub pattern_place_of_looked : gathered (group_places (hits_open kinds)) (alternating_of kinds) ≡ pattern_place_of kinds
  unfolding pattern_place_of
  pattern_place_of_looked = refl

  pub hit_of_looked : gathered (group_numbers (hits_open kinds)) (alternating_of kinds) ≡ hit_of kinds
  unfolding hit_of
  hit_of_looked = refl

  pub interval_of_looked : (limit : ℕ) → gathered (hit_intervals limit kinds) (hit_of kinds) ≡ interval_of limit kinds
  unfolding interval_of
  interval_of_looked limit = refl
