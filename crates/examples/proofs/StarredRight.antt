-- Every one of the scope's starred examples comes out as the list says: the definitions compute to it.
use mathlib.Core.Path.{◌≡◌, refl}
use mathlib.Core.List.{map}
use lib.Ieee.{round, add, sub, mul, div, le, lt, eq, of_int, of_bits, to_bits}
use Rattle.numeric.specs.Constants.{eight_tenths}
use Rattle.numeric.specs.Logistic.{table_bits, logistic_at}
use Rattle.numeric.specs.Near.{abs_of, is_near}
use Rattle.numeric.specs.Range.{within}
use Rattle.numeric.specs.TotalOrder.{total_order}
use Rattle.numeric.specs.RoundTiesEven.{round_ties_even}
use Rattle.lent.specs.Over.{over}
use Rattle.lent.specs.Scan.{scan, end_state, tabulate, gathered}
use Rattle.grouping_marks.specs.Marks.{opened, group_count, group_numbers, place_by_mark, group_places, sizes_from, group_sizes, firsts_from, group_firsts}
use Rattle.grouping_marks.specs.Parted.{parted}
use Rattle.grouping_chart.specs.Object.{is_note, notes, note_idx, note_before, previous_note}
use Rattle.grouping_interval.specs.Notes.{notes_from, note_objects, of_notes}
use Rattle.grouping_chart.specs.Chart.{equally_long}
use Rattle.grouping_chart.specs.Settings.{settings_good, settings_refusal}
use Rattle.grouping_chart.specs.Room.{any_short, short_refusal}
use Rattle.grouping_chart.specs.Outcome.{answered}
use Rattle.grouping_chart.specs.Refusal.{time_good, ratio_good, delta_refusal, object_order, first_refused, verdict}
use Rattle.grouping_hits.specs.RepeatingHitPatterns.{coupled_run, hit_size, hit_marks_after, hit_marks, second_at, second_lengths, matches, nearest_match}
use Rattle.grouping_hits.specs.RepeatingHitPatterns.{interval_at}
use Rattle.grouping_hits.specs.RepeatingHitPatterns.{intervals}
use Rattle.grouping_colour.specs.MonoStreak.{continues, opens_streak, streak_marks, streak_of, streak_lengths, streak_types}
use Rattle.grouping_colour.specs.AlternatingMonoPattern.{opens_pattern, pattern_marks, coupled_at, coupled}
use Rattle.grouping_preprocessor.specs.Preprocessor.{patterns_open, first_lengths, streak_counts, pattern_types, coupled_patterns, hits_open, hit_count}
use Rattle.grouping_preprocessor.specs.Preprocessor.{hit_sizes, hit_firsts, hit_seconds, hit_intervals, streak_place_of, alternating_of, pattern_place_of}
use Rattle.grouping_preprocessor.specs.Preprocessor.{hit_of}
use Rattle.grouping_preprocessor.specs.Preprocessor.{interval_of}
use Rattle.call_encode.specs.Call as encode
use Rattle.numeric_sort.specs.Ordered.{insert, ordered}
use Rattle.grouping_normalizer.specs.Normalizer.{alike, unrepeated, distinct, sets_after, sets, holds, middle, middle_of, normal_of, normalized}
use Rattle.grouping_interval.specs.IntervalGrouping.{is_rise, pair_class, marks_after, class_marks, interval_marks}
use Rattle.grouping_same_rhythm.specs.SameRhythm.{rhythm_marks, group_objects, firsts_of, starts_of, intervals_of, group_intervals}
use Rattle.grouping_same_rhythm.specs.SamePatterns.{pattern_number}
use Rattle.call_rhythm.specs.Rhythm.{per_note, note_group, group_of, pattern_group_of, groups_in, pattern_groups_in}
use Rattle.call_rhythm.specs.Call as rhythm
use Rattle.evaluator_colour.specs.Formulas.{hit_value, alt_value, mono_value, add_if, object_sum}
use Rattle.evaluator_colour.specs.RatioPenalty as ratio
use Rattle.evaluator_rhythm.specs.RepeatedInterval.{present, similar, similar_to, some_pair, walk_penalty}
use Rattle.evaluator_values.specs.Colour.{is_first, standing_at, colour_at, colour_values}
use Rattle.call_colour.specs.Call as calls
use Rattle.examples.specs.Question.{whole, bits_of, plain_chart, encode_memory, colour_memory, rhythm_memory, encode_answer, colour_answer, rhythm_answer}
use Rattle.examples.specs.Question.{encode_shown, colour_shown, rhythm_shown, millis, answer}
use Rattle.examples.specs.Starred.{Example, encoding, starred}

pub starred_right : map (λ (e : Example). answer e.question) starred ≡ map (λ (e : Example). e.outcome) starred
unfolding starred encoding answer whole bits_of plain_chart encode_memory colour_memory rhythm_memory encode_answer colour_answer rhythm_answer encode_shown
    colour_shown
    rhythm_shown millis answered encode.encode_outcome encode.encoded_kinds encode.filled calls.colour_outcome any_short short_refusal calls.filled
    settings_refusal settings_good
    rhythm.rhythm_outcome rhythm.filled group_of pattern_group_of per_note note_group groups_in pattern_groups_in rhythm_marks group_objects
    firsts_of starts_of intervals_of group_intervals pattern_number parted notes_from note_objects of_notes verdict equally_long first_refused object_order
    delta_refusal
    time_good ratio_good within colour_values colour_at standing_at is_first over tabulate scan end_state gathered opened group_count group_numbers
    place_by_mark
    group_places sizes_from group_sizes firsts_from group_firsts is_note notes note_idx note_before previous_note continues opens_streak streak_marks streak_of
    streak_lengths streak_types opens_pattern pattern_marks coupled_at coupled coupled_run hit_size hit_marks_after hit_marks second_at second_lengths matches
    nearest_match
    interval_at intervals patterns_open first_lengths streak_counts pattern_types coupled_patterns hits_open hit_count hit_sizes hit_firsts hit_seconds
    hit_intervals streak_place_of alternating_of pattern_place_of hit_of interval_of interval_marks class_marks marks_after pair_class is_rise
    normalized normal_of middle_of middle
    holds sets
    sets_after distinct unrepeated alike ordered insert total_order walk_penalty some_pair similar_to similar present eight_tenths object_sum hit_value
    alt_value
    mono_value add_if ratio.ratio_penalty ratio.lowered logistic_at table_bits round_ties_even is_near abs_of round add sub mul div le lt eq of_int of_bits
    to_bits
starred_right = refl
