-- Inputs and what the program prints for them, as one list: the definition computes to each output. The scope's `dkkddk` is the first.
use mathlib.Core.Path.{◌≡◌, refl}
use mathlib.Core.List.{List, [], ◌∷◌, map}
use Prim.Native.Nat.{ℕ}
use lib.ListN.{replicate}
use Rattle.std.specs.Fmt.{digits}
use Rattle.lent.specs.Scan.{scan, end_state, tabulate, gathered}
use Rattle.grouping_marks.specs.Marks.{opened, group_count, group_numbers, place_by_mark, group_places, sizes_from, group_sizes, firsts_from, group_firsts}
use Rattle.grouping_chart.specs.Object.{is_note, notes, note_idx, note_before, previous_note}
use Rattle.grouping_hits.specs.RepeatingHitPatterns.{coupled_run, hit_size, hit_marks_after, hit_marks, second_at, second_lengths}
use Rattle.grouping_hits.specs.RepeatingHitPatterns.{matches, nearest_match, interval_at, intervals}
use Rattle.grouping_colour.specs.MonoStreak.{continues, opens_streak, streak_marks, streak_of, streak_lengths, streak_types}
use Rattle.grouping_colour.specs.AlternatingMonoPattern.{opens_pattern, pattern_marks, coupled_at, coupled}
use Rattle.grouping_preprocessor.specs.Preprocessor.{patterns_open, first_lengths, streak_counts, pattern_types, coupled_patterns}
use Rattle.grouping_preprocessor.specs.Preprocessor.{hits_open, hit_sizes, hit_firsts, hit_seconds, hit_intervals, alternating_of, hit_of, interval_of}
use Rattle.letters_grammar.specs.Letters.{trimmed, is_digit, is_letter, kind_of, letter_of, exchanged_kind, exchanged_if}
use Rattle.letters_grammar.specs.Grammar.{copies}
use Rattle.letters_grammar.specs.Reading.{digit_first, exchanged, repeated, at_closing, ended, at_end, follow}
use Rattle.letters_grammar.specs.Reading.{at_objects, at_opening, at_item, at_free, at_count, at_after, at_tens, step, run, shorthand}
use Rattle.letters_shorthand.specs.Input.{input_of}
use Rattle.letters_text.specs.Lines.{line_head, parting, first_letter, next_letter, lines_after, lines_of, object_at, objects, lines}
use Rattle.letters_text.specs.Lines.{refused_line, long_line}
use Rattle.letters_answer.specs.Output.{columns, printed, letters_output}

record Example : Type 0 where
  input : List ℕ
  output : List ℕ

examples : List Example
examples =
    -- `dkkddk` and a line feed: `17 d`, `17 kk,dd`, `2 k`
    record {
      input = 100 ∷ 107 ∷ 107 ∷ 100 ∷ 100 ∷ 107 ∷ 10 ∷ [];
      output = 49 ∷ 55 ∷ 32 ∷ 100 ∷ 10 ∷ 49 ∷ 55 ∷ 32 ∷ 107 ∷ 107 ∷ 44 ∷ 100 ∷ 100 ∷ 10 ∷ 50 ∷ 32 ∷ 107 ∷ 10 ∷ [];
    }
    -- `dkkd`: `17 d|kk|d`
    ∷ record { input = 100 ∷ 107 ∷ 107 ∷ 100 ∷ []; output = 49 ∷ 55 ∷ 32 ∷ 100 ∷ 124 ∷ 107 ∷ 107 ∷ 124 ∷ 100 ∷ 10 ∷ [] }
    -- `dnd`, streaks d and nd: `17 d`, `17 nd`
    ∷ record { input = 100 ∷ 110 ∷ 100 ∷ []; output = 49 ∷ 55 ∷ 32 ∷ 100 ∷ 10 ∷ 49 ∷ 55 ∷ 32 ∷ 110 ∷ 100 ∷ 10 ∷ [] }
    -- nothing, and one line feed
    ∷ record { input = []; output = [] }
    ∷ record { input = 10 ∷ []; output = [] }
    -- `dk2~k2k` and a line feed, the same drill as the first
    ∷ record {
      input = 100 ∷ 107 ∷ 50 ∷ 126 ∷ 107 ∷ 50 ∷ 107 ∷ 10 ∷ [];
      output = 49 ∷ 55 ∷ 32 ∷ 100 ∷ 10 ∷ 49 ∷ 55 ∷ 32 ∷ 107 ∷ 107 ∷ 44 ∷ 100 ∷ 100 ∷ 10 ∷ 50 ∷ 32 ∷ 107 ∷ 10 ∷ [];
    }
    -- `~dk`, which is `kk`: `17 kk`; `~(dk)2`, which is `kdkd`: `17 k,d,k,d`; `~~d`: `17 d`
    ∷ record { input = 126 ∷ 100 ∷ 107 ∷ []; output = 49 ∷ 55 ∷ 32 ∷ 107 ∷ 107 ∷ 10 ∷ [] }
    ∷ record {
      input = 126 ∷ 40 ∷ 100 ∷ 107 ∷ 41 ∷ 50 ∷ [];
      output = 49 ∷ 55 ∷ 32 ∷ 107 ∷ 44 ∷ 100 ∷ 44 ∷ 107 ∷ 44 ∷ 100 ∷ 10 ∷ [];
    }
    ∷ record { input = 126 ∷ 126 ∷ 100 ∷ []; output = 49 ∷ 55 ∷ 32 ∷ 100 ∷ 10 ∷ [] }
    -- two line feeds: `no 12 0`
    ∷ record { input = 10 ∷ 10 ∷ []; output = 110 ∷ 111 ∷ 32 ∷ 49 ∷ 50 ∷ 32 ∷ 48 ∷ 10 ∷ [] }
    -- `(d99)11`: `no 13 6`; 17 brackets: `no 14 16`
    ∷ record {
      input = 40 ∷ 100 ∷ 57 ∷ 57 ∷ 41 ∷ 49 ∷ 49 ∷ [];
      output = 110 ∷ 111 ∷ 32 ∷ 49 ∷ 51 ∷ 32 ∷ 54 ∷ 10 ∷ [];
    }
    ∷ record { input = replicate 17 40; output = 110 ∷ 111 ∷ 32 ∷ 49 ∷ 52 ∷ 32 ∷ 49 ∷ 54 ∷ 10 ∷ [] }
    -- 4,097 bytes: `long`
    ∷ record { input = replicate 4097 100; output = 108 ∷ 111 ∷ 110 ∷ 103 ∷ 10 ∷ [] }
    ∷ []

examples_right : map (λ (e : Example). letters_output e.input) examples ≡ map (λ (e : Example). e.output) examples
unfolding examples letters_output columns scan end_state tabulate gathered
    opened group_count group_numbers place_by_mark group_places sizes_from group_sizes firsts_from group_firsts
    is_note notes note_idx note_before previous_note continues opens_streak streak_marks streak_of streak_lengths streak_types
    opens_pattern pattern_marks coupled_at coupled coupled_run hit_size hit_marks_after hit_marks second_at second_lengths
    matches nearest_match interval_at intervals
    patterns_open first_lengths streak_counts pattern_types coupled_patterns hits_open hit_sizes hit_firsts hit_seconds hit_intervals
    alternating_of hit_of interval_of
    trimmed is_digit is_letter kind_of letter_of exchanged_kind exchanged_if copies digit_first exchanged repeated at_closing ended at_end follow
    at_objects at_opening at_item at_free at_count at_after at_tens step run shorthand input_of digits
    line_head parting first_letter next_letter lines_after lines_of object_at objects lines refused_line long_line printed
examples_right = refl
