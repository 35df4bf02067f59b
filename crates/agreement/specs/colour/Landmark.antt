-- Where a colour landmark stands (scope: "Landmarks"): behind it the groups are in step, whatever stands before the
-- tail.
use Rattle.std.specs.Prelude.{ℕ, ◌+◌, ◌≤◌, ◌<◌, ◌≡◌, true, List, length, get_or}
use Rattle.grouping_marks.specs.Marks.{group_count, group_numbers}
use Rattle.grouping_chart.specs.Object.{is_note}
use Rattle.grouping_colour.specs.MonoStreak.{streak_marks, streak_of, streak_lengths}
use Rattle.grouping_preprocessor.specs.Preprocessor.{patterns_open, coupled_patterns, alternating_of}

-- a landmark of a chart with these kinds, where its last m objects are the common tail: `position` objects stand before
-- it. Objects, streaks and patterns are given by their numbers in the chart, from 0
pub record ColourLandmark (kinds : List ℕ) (m position : ℕ) : Type 0 where
  -- (a) an object begins a streak, and a note stands earlier in the tail
  pub object : ℕ
  pub object_there : object < length kinds
  pub object-opens : get_or (streak_marks kinds) object 0 ≡ 1
  pub note : ℕ
  pub note_is : is_note (get_or kinds note 0) ≡ true
  pub note_before : note < object
  pub note_of_tail : length kinds ≤ note + m
  -- (b) that streak, or one behind it, is shorter or longer than the one that follows, which begins a pattern
  pub streak : ℕ
  pub streak_after : get_or (streak_of kinds) object 0 ≤ streak
  pub streak_next : streak + 1 < group_count (streak_marks kinds)
  pub streak_unequal : get_or (streak_lengths kinds) streak 0 ≡ get_or (streak_lengths kinds) (streak + 1) 0 → ⊥
  pub streak-opens : get_or (patterns_open kinds) (streak + 1) 0 ≡ 1
  -- (c) that pattern, or one behind it, is not coupled, nor is the one that follows
  pub pattern : ℕ
  pub pattern_from : get_or (group_numbers (patterns_open kinds)) (streak + 1) 0 ≤ pattern
  pub pattern_next : pattern + 1 < group_count (patterns_open kinds)
  pub pattern_uncoupled : get_or (coupled_patterns kinds) pattern 0 ≡ 0
  pub next_uncoupled : get_or (coupled_patterns kinds) (pattern + 1) 0 ≡ 0
  -- the landmark comes right behind the last object of the pattern that follows
  pub last : ℕ
  pub last_there : last < length kinds
  pub last_of_second : get_or (alternating_of kinds) last 0 ≡ pattern + 1
  pub last_is_last : (i : ℕ) → last < i → i < length kinds → get_or (alternating_of kinds) i 0 ≡ pattern + 1 → ⊥
  pub just_after : position ≡ last + 1
