-- The scope's starred charts "no objects" and "d", and stretches with NonHits, run by the definitions: colour and stretch into memory of exactly the size
-- asked, bits and all.
use mathlib.Core.Path.{◌≡◌, refl}
use mathlib.Core.Bool.{false}
use mathlib.Core.List.{List, [], ◌∷◌, map}
use Prim.Native.Nat.{ℕ, ◌*◌}
use lib.IntN.{pos}
use lib.ListN.{length, replicate}
use lib.Ieee.{Float, inf, binary64, round, add, sub, mul, div, le, of_int, of_bits, to_bits}
use Rattle.numeric.specs.Constants.{zero64, one64, eight_tenths}
use Rattle.numeric.specs.Logistic.{table_bits, logistic_at}
use Rattle.numeric.specs.Near.{is_near}
use Rattle.numeric.specs.Range.{within}
use Rattle.numeric.specs.Tenths.{tenths_of}
use Rattle.lent.specs.Over.{over, part}
use Rattle.lent.specs.Scan.{scan, end_state, tabulate, gathered}
use Rattle.grouping_marks.specs.Marks.{opened, group_count, group_numbers, place_by_mark, group_places, sizes_from, group_sizes, firsts_from, group_firsts}
use Rattle.grouping_chart.specs.Object.{is_note, notes, note_idx, note_before, previous_note}
use Rattle.grouping_chart.specs.Chart.{Chart, equally_long}
use Rattle.grouping_chart.specs.Outcome.{Outcome, refused_then, answered}
use Rattle.grouping_chart.specs.Room.{any_short, short_refusal}
use Rattle.grouping_chart.specs.Settings.{base_settings, settings_good, settings_refusal}
use Rattle.grouping_chart.specs.Refusal.{at_0, time_good, ratio_good, delta_refusal, object_order, first_refused, verdict}
use Rattle.grouping_hits.specs.RepeatingHitPatterns.{coupled_run, hit_size, hit_marks_after, hit_marks, second_at, second_lengths}
use Rattle.grouping_hits.specs.RepeatingHitPatterns.{matches, nearest_match, interval_at, intervals}
use Rattle.grouping_colour.specs.MonoStreak.{continues, opens_streak, streak_marks, streak_of, streak_lengths, streak_types}
use Rattle.grouping_colour.specs.AlternatingMonoPattern.{opens_pattern, pattern_marks, coupled_at, coupled}
use Rattle.grouping_preprocessor.specs.Preprocessor.{patterns_open, first_lengths, streak_counts, pattern_types, coupled_patterns, hits_open, hit_count}
use Rattle.grouping_preprocessor.specs.Preprocessor.{hit_sizes}
use Rattle.grouping_preprocessor.specs.Preprocessor.{hit_firsts, hit_seconds, hit_intervals, streak_place_of, alternating_of, pattern_place_of, hit_of}
use Rattle.grouping_preprocessor.specs.Preprocessor.{interval_of}
use Rattle.grouping_interval.specs.Notes.{of_notes}
use Rattle.evaluator_colour.specs.Formulas.{hit_value, alt_value, mono_value, add_if, object_sum}
use Rattle.evaluator_colour.specs.RatioPenalty.{lowered, ratio_penalty}
use Rattle.evaluator_values.specs.Colour.{is_first, standing_at, colour_at, colour_values}
use Rattle.std.specs.Prelude.{Result, Ok, Err}
use Rattle.grouping_chart.specs.declared.refusal.Reason.{Reason}
use Rattle.grouping_chart.specs.declared.refusal.Reason.TheVariants.{OutOfRange, NoNotes}
use Rattle.grouping_chart.specs.declared.refusal.Refusal.{Refusal}
use Rattle.call_colour.specs.declared.StretchMean.{StretchMean}
use Rattle.call_colour.specs.Stretch.{has_note, stretch_refusal, stretch_values, sum_from, average_of, chart_mean, chart_tenths}
use Rattle.call_colour.specs.Call.{Memory, filled, stretch_mean, colour_outcome, stretch_outcome}

-- starts and deltas 0.0, all ratios equal
unfoldable pub chart : Float → List ℕ → Chart
chart ratio kinds =
    let zeros = replicate (length kinds) zero64 in
    record { kinds = kinds; starts = zeros; deltas = zeros; ratios = replicate (length kinds) ratio }

-- n values, 8 n and n places of work, none of them 0 before the call
unfoldable pub lent : ℕ → Memory
lent n = record { value = replicate n (inf false); work = replicate (8 * n) 7; scratch = replicate n one64 }

-- an outcome with each f64 as its bits
pub record Shown (Answer : Type 0) : Type 0 where
  pub answer : Answer
  pub value : List ℕ
  pub work : List ℕ
  pub scratch : List ℕ

unfoldable pub shown : {Answer : Type 0} → Outcome Answer Memory → Shown Answer
shown o = record {
  answer = o.answer;
  value = map (to_bits binary64) o.memory.value;
  work = o.memory.work;
  scratch = map (to_bits binary64) o.memory.scratch;
}

pub record Example : Type 0 where
  pub kinds : List ℕ
  pub outcome : Shown (Result (Unit {0}) Refusal)

unfoldable pub examples : List Example
examples =
    -- no objects: accepted, nothing written
    record { kinds = []; outcome = record { answer = Ok tt; value = []; work = []; scratch = [] } }
    -- d: mono, alt and hit with T at 0 and interval 17, each step rounded
    ∷ record {
      kinds = 0 ∷ [];
      outcome = record { answer = Ok tt; value = 0x4013_ee42_c838_4268 ∷ []; work = replicate 8 0; scratch = 0 ∷ [] };
    }
    ∷ []

pub record StretchExample : Type 0 where
  pub ratio : Float
  pub kinds : List ℕ
  pub a : ℕ
  pub b : ℕ
  pub outcome : Shown (Result StretchMean Refusal)

unfoldable pub stretches : List StretchExample
stretches =
    -- d, b = n: the value itself, which is 4.98..
    record {
      ratio = one64;
      kinds = 0 ∷ [];
      a = 0;
      b = 1;
      outcome = record {
        answer = Ok (stretch_mean (of_bits binary64 0x4013_ee42_c838_4268) (pos 50));
        value = 0x4013_ee42_c838_4268 ∷ [];
        work = replicate 8 0;
        scratch = 0 ∷ [];
      };
    }
    -- ndn: all three have values, and the note's alone is the mean
    ∷ record {
      ratio = one64;
      kinds = 2 ∷ 0 ∷ 2 ∷ [];
      a = 0;
      b = 3;
      outcome = record {
        answer = Ok (stretch_mean (of_bits binary64 0x3fed_e392_330f_f9c8) (pos 9));
        value = 0x4013_ee42_c838_4268 ∷ 0x3fed_e392_330f_f9c8 ∷ 0x3fd3_1de3_d355_d99d ∷ [];
        work = replicate 24 0;
        scratch = 0 ∷ 0 ∷ 0 ∷ [];
      };
    }
    -- ddddk, each ratio 0x1.df7197f2d26a0p+0, its last object alone: 1.25, whose tenths are half_way, and 12 is even
    ∷ record {
      ratio = of_bits binary64 0x3ffd_f719_7f2d_26a0;
      kinds = 0 ∷ 0 ∷ 0 ∷ 0 ∷ 1 ∷ [];
      a = 4;
      b = 5;
      outcome = record {
        answer = Ok (stretch_mean (of_bits binary64 0x3ff4_0000_0000_0000) (pos 12));
        value = 0x4013_ee42_c838_4268 ∷ 0 ∷ 0 ∷ 0 ∷ 0x3ff4_0000_0000_0000 ∷ [];
        work = replicate 40 0;
        scratch = replicate 5 0;
      };
    }
    -- d, b = n + 1, and a = b: refused, and all as lent
    ∷ record { ratio = one64; kinds = 0 ∷ []; a = 0; b = 2; outcome = refused OutOfRange }
    ∷ record { ratio = one64; kinds = 0 ∷ []; a = 1; b = 1; outcome = refused OutOfRange }
    -- n: refused as it has no note, but where it is overlong or empty for that
    ∷ record { ratio = one64; kinds = 2 ∷ []; a = 0; b = 1; outcome = refused NoNotes }
    ∷ record { ratio = one64; kinds = 2 ∷ []; a = 0; b = 2; outcome = refused OutOfRange }
    ∷ record { ratio = one64; kinds = 2 ∷ []; a = 0; b = 0; outcome = refused OutOfRange }
    ∷ []
  where
    -- one object's memory, as lent
    refused : Reason → Shown (Result StretchMean Refusal)
    refused reason = record {
      answer = Err (at_0 reason);
      value = 0x7ff0_0000_0000_0000 ∷ [];
      work = replicate 8 7;
      scratch = 0x3ff0_0000_0000_0000 ∷ [];
    }

unfoldable pub coloured : Example → Shown (Result (Unit {0}) Refusal)
coloured e = shown (colour_outcome base_settings (chart one64 e.kinds) (lent (length e.kinds)))

unfoldable pub stretched : StretchExample → Shown (Result StretchMean Refusal)
stretched e = shown (stretch_outcome base_settings (chart e.ratio e.kinds) e.a e.b (lent (length e.kinds)))

-- every one of the two lists comes out as it says
pub examples_right : (map coloured examples ≡ map (λ (e : Example). e.outcome) examples)
    × (map stretched stretches ≡ map (λ (e : StretchExample). e.outcome) stretches)
unfolding examples stretches coloured stretched chart lent shown answered colour_outcome stretch_outcome refused_then stretch_refusal has_note chart_tenths
    tenths_of
    chart_mean average_of stretch_values of_notes sum_from part of_int any_short short_refusal settings_refusal settings_good
    verdict equally_long first_refused object_order delta_refusal time_good ratio_good within
    filled colour_values colour_at standing_at is_first over tabulate scan end_state gathered opened group_count group_numbers place_by_mark group_places
    sizes_from
    group_sizes firsts_from group_firsts is_note notes note_idx note_before previous_note continues opens_streak streak_marks streak_of streak_lengths
    streak_types
    opens_pattern pattern_marks coupled_at coupled coupled_run hit_size hit_marks_after hit_marks second_at second_lengths matches nearest_match interval_at
    intervals
    patterns_open first_lengths streak_counts pattern_types coupled_patterns hits_open hit_count hit_sizes hit_firsts hit_seconds hit_intervals streak_place_of
    alternating_of
    pattern_place_of hit_of interval_of object_sum hit_value alt_value mono_value add_if ratio_penalty lowered eight_tenths logistic_at table_bits is_near round
    add sub mul
    div le of_bits to_bits
examples_right = (refl, refl)
