-- What the encoder writes, list by list. It works in the first 8 n places of one slice, in eight regions of n places,
-- region r from place r * n on. A list is written from its region's first place on, and past its end the region keeps
-- what it held. Later passes read
--   region 0 object: streak      region 3 streak: pattern      region 4 streak: place in its pattern
--   region 1 pattern: hit pattern      region 2 pattern: place in its hit pattern      region 7 hit pattern: interval
--   region 5 streak: first object      region 6 streak: last object
use Rattle.std.specs.Prelude.{ℕ, ◌*◌, List, [], ◌∷◌, ◌++◌, length}
use Rattle.lent.specs.Over.{Write, write}
use Rattle.grouping_marks.specs.Marks.{group_numbers, group_places, group_sizes, group_firsts}
use Rattle.grouping_hits.specs.RepeatingHitPatterns.{hit_marks, second_lengths, intervals}
use Rattle.grouping_colour.specs.MonoStreak.{streak_marks, streak_of, streak_lengths, streak_types, streak_firsts}
use Rattle.grouping_colour.specs.MonoStreak.{streak_lasts}
use Rattle.grouping_colour.specs.AlternatingMonoPattern.{pattern_marks}
use Rattle.grouping_preprocessor.specs.Preprocessor.{first_lengths, coupled_patterns}

-- the streaks: their marks, each object's streak, each streak's type and length
unfoldable pub streak_writes : List ℕ → List (Write ℕ)
streak_writes kinds =
    let n = length kinds in
    write (7 * n) (streak_marks kinds)
    ∷ write 0 (streak_of kinds)
    ∷ write (2 * n) (streak_types kinds)
    ∷ write n (streak_lengths kinds)
    ∷ []

-- the alternating patterns, by the streaks' lengths and types: their marks, each streak's pattern and place,
-- each pattern's first length, type and streak count
unfoldable pub pattern_writes : ℕ → List ℕ → List ℕ → List (Write ℕ)
pattern_writes n lengths types =
    let marks = pattern_marks lengths in
    write (7 * n) marks
    ∷ write (3 * n) (group_numbers marks)
    ∷ write (4 * n) (group_places marks)
    ∷ write n (group_firsts marks lengths)
    ∷ write (2 * n) (group_firsts marks types)
    ∷ write (5 * n) (group_sizes marks)
    ∷ []

-- which patterns open a hit pattern, by their first lengths and coupled flags: the flags, the marks, the second lengths
unfoldable pub hit_mark_writes : ℕ → List ℕ → List ℕ → List (Write ℕ)
hit_mark_writes n lengths flags =
    let marks = hit_marks flags in
    write (6 * n) flags ∷ write (6 * n) marks ∷ write (2 * n) (second_lengths lengths marks) ∷ []

-- each hit pattern's interval, by the patterns' first and second lengths and marks
abbrev pub intervals_by : ℕ → List ℕ → List ℕ → List ℕ → List ℕ
intervals_by limit firsts seconds marks =
    intervals limit (group_sizes marks) (group_firsts marks firsts) (group_firsts marks seconds)

-- the hit patterns, by the same: each one's size, first and second length and interval, each pattern's hit pattern and
-- its place there
unfoldable pub hit_writes : ℕ → ℕ → List ℕ → List ℕ → List ℕ → List (Write ℕ)
hit_writes limit n firsts seconds marks =
    write (5 * n) (group_sizes marks)
    ∷ write n (group_firsts marks firsts)
    ∷ write (2 * n) (group_firsts marks seconds)
    ∷ write (7 * n) (intervals_by limit firsts seconds marks)
    ∷ write n (group_numbers marks)
    ∷ write (2 * n) (group_places marks)
    ∷ []

-- the hit patterns from the coupled flags on
unfoldable pub coupled_writes : ℕ → ℕ → List ℕ → List ℕ → List (Write ℕ)
coupled_writes limit n lengths flags =
    let marks = hit_marks flags in
    hit_mark_writes n lengths flags ++ hit_writes limit n lengths (second_lengths lengths marks) marks

-- each streak's last object and its first
unfoldable pub end_writes : List ℕ → List (Write ℕ)
end_writes kinds =
    let n = length kinds in
    write (6 * n) (streak_lasts kinds) ∷ write (5 * n) (streak_firsts kinds) ∷ []

-- all of it, in order
unfoldable pub encoder_writes : ℕ → List ℕ → List (Write ℕ)
encoder_writes limit kinds =
    let n = length kinds in
    streak_writes kinds
    ++ (pattern_writes n (streak_lengths kinds) (streak_types kinds)
    ++ (coupled_writes limit n (first_lengths kinds) (coupled_patterns kinds)
    ++ end_writes kinds))
