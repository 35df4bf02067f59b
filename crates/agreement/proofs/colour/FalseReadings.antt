-- Readings of the colour landmark that are false, and of "from the sixteenth": each by two charts on which the definitions compute to different answers.
-- They show that the statement asks no more than it must. Kinds: 0 Center, 1 Rim, 2 NonHit.
use mathlib.Core.Path.{◌≡◌, refl}
use mathlib.Core.Logic.{inl}
use mathlib.Core.Bool.{Bool, true, not}
use mathlib.Core.List.{List, [], ◌∷◌, ◌++◌}
use Prim.Native.Nat.{ℕ, zero, suc, ◌+◌, ◌-◌}
use lib.Dec.{eqb, leb, ltb}
use lib.ListN.{length, get_or, replicate}
use Rattle.lent.specs.Scan.{scan, end_state, tabulate, gathered}
use Rattle.grouping_marks.specs.Marks.{opened, group_count, group_numbers, place_by_mark, group_sizes, sizes_from, group_firsts, firsts_from}
use Rattle.grouping_chart.specs.Object.{is_note, notes, note_idx, note_before, previous_note}
use Rattle.grouping_chart.specs.Chart.{Chart}
use Rattle.grouping_chart.specs.Settings.{base_settings}
use Rattle.grouping_hits.specs.RepeatingHitPatterns.{coupled_run, hit_size, hit_marks_after, hit_marks, second_at, second_lengths, matches}
use Rattle.grouping_hits.specs.RepeatingHitPatterns.{nearest_match, interval_at, intervals}
use Rattle.grouping_colour.specs.MonoStreak.{continues, opens_streak, streak_marks, streak_of, streak_lengths, streak_types}
use Rattle.grouping_colour.specs.AlternatingMonoPattern.{opens_pattern, pattern_marks, coupled_at, coupled}
use Rattle.grouping_preprocessor.specs.Preprocessor.{patterns_open, first_lengths, streak_counts, pattern_types, coupled_patterns, hits_open, hit_sizes}
use Rattle.grouping_preprocessor.specs.Preprocessor.{hit_firsts}
use Rattle.grouping_preprocessor.specs.Preprocessor.{hit_seconds, hit_intervals, alternating_of, hit_of, interval_of}
use Rattle.agreement.specs.passes.Tests.{all_true, any_below}
use Rattle.agreement.specs.passes.LandmarkTest.{LevelLists, levels_of, Conditions, tail_note_before, object_serves, streak_serves, pattern_serves, plain}
use Rattle.agreement.specs.passes.LandmarkTest.{ends_at}
use Rattle.agreement.specs.passes.LandmarkTest.{pattern_found, streak_found, landmark_found, is_landmark}
use Rattle.agreement.proofs.Readings.{ClaimFrom, opens_there, refutes, refuted}
use Rattle.agreement.proofs.colour.LandmarkLaws.{test_landmark}
use Rattle.agreement.proofs.colour.HitsAgree.{colour-agree}
use Rattle.agreement.proofs.colour.Claimed.{same_hits}

-- the scope's own landmark: the claim holds
plain-holds : ClaimFrom hit_of (is_landmark plain)
plain-holds xs ys t i i' s c e = same_hits base_settings (kinds_only xs) (kinds_only ys) (colour-agree 16 xs ys t i i' s c (inl (test_landmark xs t i e))).agree
  where
    kinds_only : List ℕ → Chart
    kinds_only kinds = record { kinds = kinds; starts = []; deltas = []; ratios = [] }

-- ---- weaker conditions

-- (a) an object of the tail before the object, no note
unfoldable object_before : LevelLists → ℕ → ℕ → Bool
object_before l m object = all_true (eqb (get_or l.marks object 0) 1 ∷ any_below object (λ (other : ℕ). leb (length l.kinds) (other + m)) ∷ [])

-- (a) an object of the tail, with a note before it that may stand before the tail
unfoldable note_anywhere : LevelLists → ℕ → ℕ → Bool
note_anywhere l m object =
    all_true (eqb (get_or l.marks object 0) 1
    ∷ leb (length l.kinds) (object + m)
    ∷ any_below object (λ (note : ℕ). is_note (get_or l.kinds note 0))
    ∷ [])

-- (b) only the second of the two streaks at or after the object
unfoldable second_after : LevelLists → ℕ → ℕ → Bool
second_after l object streak =
    all_true (leb (get_or l.streaks object 0) (streak + 1)
    ∷ ltb (streak + 1) (group_count l.marks)
    ∷ not (eqb (get_or l.lengths streak 0) (get_or l.lengths (streak + 1) 0))
    ∷ eqb (get_or l.opens (streak + 1) 0) 1
    ∷ [])

-- (b) two streaks of any lengths, and so the second may open no pattern
unfoldable any_lengths : LevelLists → ℕ → ℕ → Bool
any_lengths l object streak = all_true (leb (get_or l.streaks object 0) streak ∷ ltb (streak + 1) (group_count l.marks) ∷ [])

-- (c) from the pattern before the opened one on
unfoldable pattern_earlier : LevelLists → ℕ → ℕ → Bool
pattern_earlier l streak pattern =
    all_true (leb (get_or l.patterns (streak + 1) 0) (pattern + 1)
    ∷ ltb (pattern + 1) (group_count l.opens)
    ∷ eqb (get_or l.flags pattern 0) 0
    ∷ eqb (get_or l.flags (pattern + 1) 0) 0
    ∷ [])

-- (c) one uncoupled pattern, with the landmark just after it
unfoldable one_uncoupled : LevelLists → ℕ → ℕ → Bool
one_uncoupled l streak pattern =
    all_true (leb (get_or l.patterns (streak + 1) 0) (pattern + 1)
    ∷ ltb (pattern + 1) (group_count l.opens)
    ∷ eqb (get_or l.flags (pattern + 1) 0) 0
    ∷ [])

-- (c) one uncoupled pattern, with the landmark just after the next
unfoldable one_then_next : LevelLists → ℕ → ℕ → Bool
one_then_next l streak pattern =
    all_true (leb (get_or l.patterns (streak + 1) 0) pattern
    ∷ ltb (pattern + 1) (group_count l.opens)
    ∷ eqb (get_or l.flags pattern 0) 0
    ∷ [])

-- ---- the scope's conditions with one of them weaker

abbrev with_object : (LevelLists → ℕ → ℕ → Bool) → Conditions
with_object condition = record { object = condition; streak = streak_serves; pattern = pattern_serves }

abbrev with_streak : (LevelLists → ℕ → ℕ → Bool) → Conditions
with_streak condition = record { object = object_serves; streak = condition; pattern = pattern_serves }

abbrev with_pattern : (LevelLists → ℕ → ℕ → Bool) → Conditions
with_pattern condition = record { object = object_serves; streak = streak_serves; pattern = condition }

-- what stands before the one tail, what stands before the other, the tail, and the offset in it at which the weaker landmark is
record Computed : Type 0 where
  object_before_lem : refutes hit_of (is_landmark (with_object object_before)) (1 ∷ 1 ∷ 1 ∷ []) [] (2 ∷ 2 ∷ 2 ∷ 1 ∷ 2 ∷ 1 ∷ 2 ∷ 2 ∷ 1 ∷ []) 7 ≡ true
  note_anywhere_lem : refutes hit_of (is_landmark (with_object note_anywhere)) (0 ∷ 1 ∷ 2 ∷ []) (1 ∷ 0 ∷ 0 ∷ []) (2 ∷ 2 ∷ 1 ∷ 2 ∷ 0 ∷ 0 ∷ []) 4 ≡ true
  second_after_lem : refutes hit_of (is_landmark (with_streak second_after)) (2 ∷ 0 ∷ []) [] (0 ∷ 1 ∷ 2 ∷ 1 ∷ 0 ∷ 1 ∷ []) 4 ≡ true
  any_lengths_lem : refutes hit_of (is_landmark (with_streak any_lengths)) [] (1 ∷ 1 ∷ []) (1 ∷ 0 ∷ 1 ∷ 2 ∷ 1 ∷ 0 ∷ 1 ∷ []) 5 ≡ true
  pattern-earlier : refutes hit_of (is_landmark (with_pattern pattern_earlier)) [] (0 ∷ []) (0 ∷ 1 ∷ 0 ∷ 0 ∷ 1 ∷ []) 4 ≡ true
  one_uncoupled_lem : refutes hit_of (is_landmark (with_pattern one_uncoupled)) [] (0 ∷ []) (0 ∷ 1 ∷ 0 ∷ 0 ∷ 1 ∷ []) 4 ≡ true
  one_then_next_lem : refutes hit_of (is_landmark (with_pattern one_then_next)) (0 ∷ []) [] (0 ∷ 2 ∷ 1 ∷ 1 ∷ 2 ∷ 0 ∷ 0 ∷ 2 ∷ []) 5 ≡ true

computed : Computed
unfolding refutes opens_there all_true any_below object_before note_anywhere second_after any_lengths pattern_earlier one_uncoupled one_then_next
    levels_of tail_note_before object_serves streak_serves pattern_serves ends_at pattern_found streak_found landmark_found is_landmark
    scan end_state tabulate gathered opened group_count group_numbers place_by_mark group_sizes sizes_from group_firsts firsts_from
    is_note notes note_idx note_before previous_note continues opens_streak streak_marks streak_of streak_lengths streak_types
    opens_pattern pattern_marks coupled_at coupled coupled_run hit_size hit_marks_after hit_marks
    patterns_open first_lengths streak_counts pattern_types coupled_patterns hits_open alternating_of hit_of
computed = record {
  object_before_lem = refl;
  note_anywhere_lem = refl;
  second_after_lem = refl;
  any_lengths_lem = refl;
  pattern-earlier = refl;
  one_uncoupled_lem = refl;
  one_then_next_lem = refl;
}

-- ---- from none of these landmarks does the claim hold

object_before_fails : ClaimFrom hit_of (is_landmark (with_object object_before)) → ⊥
object_before_fails = refuted hit_of (is_landmark (with_object object_before)) _ _ _ _ computed.object_before_lem

note_anywhere_fails : ClaimFrom hit_of (is_landmark (with_object note_anywhere)) → ⊥
note_anywhere_fails = refuted hit_of (is_landmark (with_object note_anywhere)) _ _ _ _ computed.note_anywhere_lem

second_after_fails : ClaimFrom hit_of (is_landmark (with_streak second_after)) → ⊥
second_after_fails = refuted hit_of (is_landmark (with_streak second_after)) _ _ _ _ computed.second_after_lem

any_lengths_fails : ClaimFrom hit_of (is_landmark (with_streak any_lengths)) → ⊥
any_lengths_fails = refuted hit_of (is_landmark (with_streak any_lengths)) _ _ _ _ computed.any_lengths_lem

pattern-earlier_fails : ClaimFrom hit_of (is_landmark (with_pattern pattern_earlier)) → ⊥
pattern-earlier_fails = refuted hit_of (is_landmark (with_pattern pattern_earlier)) _ _ _ _ computed.pattern-earlier

one_uncoupled_fails : ClaimFrom hit_of (is_landmark (with_pattern one_uncoupled)) → ⊥
one_uncoupled_fails = refuted hit_of (is_landmark (with_pattern one_uncoupled)) _ _ _ _ computed.one_uncoupled_lem

one_then_next_fails : ClaimFrom hit_of (is_landmark (with_pattern one_then_next)) → ⊥
one_then_next_fails = refuted hit_of (is_landmark (with_pattern one_then_next)) _ _ _ _ computed.one_then_next_lem

-- ---- from the hit pattern before the M-th is too early

-- with M = 3: behind the landmark of dkddk come n and kd, and kd, the second, has the interval 2, and none (4) if d stands before the tail
abbrev short : List ℕ
short = 0 ∷ 1 ∷ 0 ∷ 0 ∷ 1 ∷ 2 ∷ 1 ∷ 0 ∷ []

-- with M = 16: behind the landmark of dkddk come fourteen runs of 3 to 16 equal objects, which are hit patterns 1 to 14, and then d, the fifteenth. Its
-- interval is 15, and none (17) if d stands before the tail
runs : ℕ → ℕ → ℕ → List ℕ
runs kind size zero = 0 ∷ []
runs kind size (suc more) = replicate size kind ++ runs (1 - kind) (size + 1) more

long : List ℕ
unfolding runs
long = (0 ∷ 1 ∷ 0 ∷ 0 ∷ 1 ∷ []) ++ runs 0 3 14

record TooEarly : Type 0 where
  second_of_three : get_or (interval_of 3 short) 7 0 ≡ 2
  second_of_three_behind_d : get_or (interval_of 3 (0 ∷ short)) 8 0 ≡ 4
  fifteenth : get_or (interval_of 16 long) 138 0 ≡ 15
  fifteenth_behind_d : get_or (interval_of 16 (0 ∷ long)) 139 0 ≡ 17

too_early : TooEarly
unfolding long runs scan end_state tabulate gathered opened group_numbers place_by_mark group_sizes sizes_from group_firsts firsts_from
    is_note notes note_idx note_before previous_note continues opens_streak streak_marks streak_of streak_lengths streak_types
    opens_pattern pattern_marks coupled_at coupled coupled_run hit_size hit_marks_after hit_marks second_at second_lengths matches nearest_match interval_at
    intervals
    patterns_open first_lengths streak_counts pattern_types coupled_patterns hits_open hit_sizes hit_firsts hit_seconds hit_intervals alternating_of hit_of
    interval_of
too_early = record { second_of_three = refl; second_of_three_behind_d = refl; fifteenth = refl; fifteenth_behind_d = refl }
