-- Worked examples, computed by antt: what the call answers of small charts, each with the margin 5.0 and memory of as many places as it needs.
use mathlib.Core.Path.{◌≡◌, refl}
use mathlib.Core.List.{List, [], ◌∷◌, map}
use Prim.Native.Nat.{ℕ, ◌*◌}
use lib.IntN.{pos}
use lib.ListN.{length, replicate}
use lib.Ieee.{Float, binary64, round, add, sub, le, lt, of_int, of_bits}
use Rattle.std.specs.Prelude.{Option, Some, None, Result, Ok, Err}
use Rattle.lent.specs.Over.{over}
use Rattle.lent.specs.Scan.{tabulate, scan, end_state}
use Rattle.numeric.specs.Constants.{one64}
use Rattle.numeric.specs.Near.{abs_of, is_near}
use Rattle.numeric.specs.Range.{within}
use Rattle.grouping_marks.specs.Marks.{opened, group_count, group_numbers}
use Rattle.grouping_chart.specs.Object.{is_note, notes, note_idx}
use Rattle.grouping_chart.specs.Outcome.{answered}
use Rattle.grouping_chart.specs.Refusal.{refusal, time_good, ratio_good, object_order, first_refused}
use Rattle.grouping_chart.specs.Room.{any_short, short_refusal}
use Rattle.grouping_chart.specs.Settings.{base_settings, settings_good, settings_refusal}
use Rattle.grouping_chart.specs.declared.refusal.Reason.TheVariants.{BadDelta, BadRatio, LowestAboveHighest}
use Rattle.grouping_chart.specs.declared.refusal.Refusal.{Refusal}
use Rattle.grouping_interval.specs.Notes.{notes_from, note_objects}
use Rattle.grouping_interval.specs.IntervalGrouping.{is_rise, marks_after, class_marks}
use Rattle.grouping_interval.specs.LookedAt.{looked_after, looked_at, among}
use Rattle.grouping_ranges.specs.SureClass.{sure_class}
use Rattle.call_rhythm.specs.Rhythm.{per_note}
use Rattle.call_taps.specs.Taps.{TapChart, range_of, class_of, tap_marks, is_open, class_at, pairs_of, tap_groups_of, tap_groups_in}
use Rattle.call_taps.specs.Refusals.{range_refusal, ranges, all_equally_long, tap_verdict}
use Rattle.call_taps.specs.Call.{Memory, filled, taps_outcome}

whole : ℕ → Float
whole n = of_int binary64 (pos n)

-- what is shown of an outcome
record Shown : Type 0 where
  answer : Result (Option ℕ) Refusal
  pair : List ℕ
  group : List ℕ

record Example : Type 0 where
  kinds : List ℕ
  lowest : List Float
  highest : List Float
  ratio : Float
  outcome : Shown

milliseconds : List ℕ → List Float
milliseconds times = map whole times

-- two slices of answers that have 7 in each place
lent : ℕ → Memory
lent n = record { pair = replicate n 7; group = replicate n 7; work = replicate (8 * n) 7; scratch = replicate n (whole 7) }

examples : List Example
examples =
    -- ddnkd: 100 to 102 three times, a roll between, then 200: three notes in a group and one for the last; the roll's range is read by no pair
    record {
      kinds = 0 ∷ 0 ∷ 2 ∷ 1 ∷ 0 ∷ [];
      lowest = milliseconds (100 ∷ 100 ∷ 0 ∷ 100 ∷ 200 ∷ []);
      highest = milliseconds (102 ∷ 102 ∷ 900 ∷ 102 ∷ 200 ∷ []);
      ratio = one64;
      outcome = record { answer = Ok (Some 2); pair = 0 ∷ 0 ∷ 255 ∷ 1 ∷ 255 ∷ []; group = 0 ∷ 0 ∷ 65535 ∷ 0 ∷ 1 ∷ [] };
    }
    -- three notes of which the first two may be near or not: no grouping looks at these
    ∷ record {
      kinds = 0 ∷ 0 ∷ 0 ∷ [];
      lowest = milliseconds (100 ∷ 100 ∷ 200 ∷ []);
      highest = milliseconds (150 ∷ 100 ∷ 200 ∷ []);
      ratio = one64;
      outcome = record { answer = Ok (Some 2); pair = 3 ∷ 1 ∷ 255 ∷ []; group = 0 ∷ 0 ∷ 1 ∷ [] };
    }
    -- of which the last two may be: the groups are open, and their slice is as lent
    ∷ record {
      kinds = 0 ∷ 0 ∷ 0 ∷ [];
      lowest = milliseconds (100 ∷ 100 ∷ 100 ∷ []);
      highest = milliseconds (100 ∷ 100 ∷ 150 ∷ []);
      ratio = one64;
      outcome = record { answer = Ok None; pair = 0 ∷ 3 ∷ 255 ∷ []; group = 7 ∷ 7 ∷ 7 ∷ [] };
    }
    -- of five the third and the fourth: the third opens a group behind a rise, whatever it is, so the two are passed over
    ∷ record {
      kinds = 0 ∷ 0 ∷ 0 ∷ 0 ∷ 0 ∷ [];
      lowest = milliseconds (100 ∷ 100 ∷ 200 ∷ 200 ∷ 400 ∷ []);
      highest = milliseconds (100 ∷ 100 ∷ 200 ∷ 300 ∷ 400 ∷ []);
      ratio = one64;
      outcome = record { answer = Ok (Some 3); pair = 0 ∷ 1 ∷ 3 ∷ 1 ∷ 255 ∷ []; group = 0 ∷ 0 ∷ 1 ∷ 1 ∷ 2 ∷ [] };
    }
    -- two notes are two groups, whatever their deltas, and their pair has its class
    ∷ record {
      kinds = 0 ∷ 1 ∷ [];
      lowest = milliseconds (100 ∷ 100 ∷ []);
      highest = milliseconds (100 ∷ 150 ∷ []);
      ratio = one64;
      outcome = record { answer = Ok (Some 2); pair = 3 ∷ 255 ∷ []; group = 0 ∷ 1 ∷ [] };
    }
    -- no object
    ∷ record { kinds = []; lowest = []; highest = []; ratio = one64; outcome = record { answer = Ok (Some 0); pair = []; group = [] } }
    -- a lowest above its highest, of a roll too, before a bad ratio; and an end that is refused before that
    ∷ record {
      kinds = 0 ∷ [];
      lowest = milliseconds (101 ∷ []);
      highest = milliseconds (100 ∷ []);
      ratio = whole 0;
      outcome = record { answer = Err (refusal LowestAboveHighest 0); pair = 7 ∷ []; group = 7 ∷ [] };
    }
    ∷ record {
      kinds = 2 ∷ [];
      lowest = milliseconds (101 ∷ []);
      highest = milliseconds (100 ∷ []);
      ratio = one64;
      outcome = record { answer = Err (refusal LowestAboveHighest 0); pair = 7 ∷ []; group = 7 ∷ [] };
    }
    ∷ record {
      kinds = 0 ∷ [];
      lowest = milliseconds (16777217 ∷ []);
      highest = milliseconds (100 ∷ []);
      ratio = one64;
      outcome = record { answer = Err (refusal BadDelta 0); pair = 7 ∷ []; group = 7 ∷ [] };
    }
    ∷ record {
      kinds = 0 ∷ [];
      lowest = milliseconds (100 ∷ []);
      highest = milliseconds (100 ∷ []);
      ratio = whole 0;
      outcome = record { answer = Err (refusal BadRatio 0); pair = 7 ∷ []; group = 7 ∷ [] };
    }
    ∷ []

-- all objects start at 0
tapped : Example → Shown
tapped e =
    let n = length e.kinds in
    let t : TapChart = record { kinds = e.kinds; starts = replicate n (whole 0); lowest = e.lowest; highest = e.highest; ratios = replicate n e.ratio } in
    let o = taps_outcome base_settings t (lent n) in
    record { answer = o.answer; pair = o.memory.pair; group = o.memory.group }

-- every chart comes out as it says
examples_right : map tapped examples ≡ map (λ (e : Example). e.outcome) examples
unfolding examples tapped lent milliseconds whole taps_outcome answered filled tap_verdict all_equally_long ranges range_refusal first_refused object_order
    time_good ratio_good within any_short short_refusal settings_refusal settings_good over tabulate scan end_state opened group_count group_numbers
    is_note notes note_idx notes_from
    note_objects per_note range_of class_of tap_marks is_open class_at pairs_of tap_groups_of tap_groups_in class_marks marks_after
    looked_at looked_after among sure_class
    is_rise is_near abs_of add sub le lt of_int of_bits round
examples_right = refl
