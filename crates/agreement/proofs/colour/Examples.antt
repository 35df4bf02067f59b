-- Landmarks of short charts (d is 0, k is 1, n is 2), each chart as what stands before its tail and the tail, with the offsets in the tail at which the test
-- finds a landmark.
use mathlib.Core.Path.{◌≡◌, refl}
use mathlib.Core.Bool.{true}
use mathlib.Core.List.{List, [], ◌∷◌, map}
use Prim.Native.Nat.{ℕ}
use Rattle.lent.specs.Scan.{scan, end_state, tabulate, gathered}
use Rattle.grouping_marks.specs.Marks.{opened, group_count, group_numbers, sizes_from, group_sizes, firsts_from, group_firsts}
use Rattle.grouping_chart.specs.Object.{is_note, notes, note_idx, note_before, previous_note}
use Rattle.grouping_colour.specs.MonoStreak.{continues, opens_streak, streak_marks, streak_of, streak_lengths, streak_types}
use Rattle.grouping_colour.specs.AlternatingMonoPattern.{opens_pattern, pattern_marks, coupled_at, coupled}
use Rattle.grouping_preprocessor.specs.Preprocessor.{patterns_open, first_lengths, streak_counts, pattern_types, coupled_patterns, alternating_of}
use Rattle.agreement.specs.colour.Landmark.{ColourLandmark}
use Rattle.agreement.specs.passes.Tests.{all_true, any_below}
use Rattle.agreement.specs.passes.LandmarkTest.{levels_of, tail_note_before, object_serves, streak_serves, pattern_serves, ends_at, pattern_found, streak_found}
use Rattle.agreement.specs.passes.LandmarkTest.{landmark_found, is_landmark, plain}
use Rattle.agreement.proofs.Readings.{LandmarkExample, offsets_below, offsets_found}
use Rattle.agreement.proofs.colour.LandmarkLaws.{test_landmark}

examples : List LandmarkExample
examples =
    -- behind d k | dd | k, and further on; the same after every opening
    record { before = []; tail = 0 ∷ 1 ∷ 0 ∷ 0 ∷ 1 ∷ 2 ∷ 1 ∷ 0 ∷ []; offsets = 5 ∷ 7 ∷ 8 ∷ [] }
    ∷ record { before = 0 ∷ []; tail = 0 ∷ 1 ∷ 0 ∷ 0 ∷ 1 ∷ 2 ∷ 1 ∷ 0 ∷ []; offsets = 5 ∷ 7 ∷ 8 ∷ [] }
    ∷ record { before = 2 ∷ 0 ∷ []; tail = 0 ∷ 1 ∷ 0 ∷ 0 ∷ 1 ∷ 2 ∷ 1 ∷ 0 ∷ []; offsets = 5 ∷ 7 ∷ 8 ∷ [] }
    -- were any object enough where (a) asks for a note, there would be one at 5
    ∷ record { before = 0 ∷ []; tail = 2 ∷ 2 ∷ 2 ∷ 0 ∷ 2 ∷ 1 ∷ 1 ∷ []; offsets = [] }
    ∷ record { before = 1 ∷ 1 ∷ []; tail = 2 ∷ 2 ∷ 2 ∷ 0 ∷ 2 ∷ 1 ∷ 1 ∷ []; offsets = [] }
    -- were only the second streak of (b) at or after the object of (a), there would be one at 4
    ∷ record { before = 0 ∷ []; tail = 0 ∷ 1 ∷ 2 ∷ 1 ∷ 0 ∷ 1 ∷ []; offsets = 6 ∷ [] }
    ∷ record { before = []; tail = 0 ∷ 1 ∷ 2 ∷ 1 ∷ 0 ∷ 1 ∷ []; offsets = 6 ∷ [] }
    -- were one uncoupled pattern and the next enough, there would be one at 5
    ∷ record { before = []; tail = 0 ∷ 2 ∷ 1 ∷ 1 ∷ 2 ∷ 0 ∷ 0 ∷ 2 ∷ []; offsets = 8 ∷ [] }
    ∷ record { before = 0 ∷ []; tail = 0 ∷ 2 ∷ 1 ∷ 1 ∷ 2 ∷ 0 ∷ 0 ∷ 2 ∷ []; offsets = 8 ∷ [] }
    -- were any pattern that opens in the tail enough, without (a) and (b), there would be one at 3
    ∷ record { before = 2 ∷ 0 ∷ []; tail = 0 ∷ 1 ∷ 1 ∷ 2 ∷ []; offsets = [] }
    -- the guide's chart, whole: dkdkkdkknkkddkdkkdkk
    ∷ record {
      before = [];
      tail = 0 ∷ 1 ∷ 0 ∷ 1 ∷ 1 ∷ 0 ∷ 1 ∷ 1 ∷ 2 ∷ 1 ∷ 1 ∷ 0 ∷ 0 ∷ 1 ∷ 0 ∷ 1 ∷ 1 ∷ 0 ∷ 1 ∷ 1 ∷ [];
      offsets = 8 ∷ 11 ∷ 13 ∷ 15 ∷ 20 ∷ [];
    }
    -- no objects
    ∷ record { before = []; tail = []; offsets = [] }
    ∷ []

-- d before the tail d k dd k n k d
abbrev one : List ℕ
one = 0 ∷ 0 ∷ 1 ∷ 0 ∷ 0 ∷ 1 ∷ 2 ∷ 1 ∷ 0 ∷ []

record Computed : Type 0 where
  -- every chart of the list comes out as it says
  examples_right : map (offsets_found (is_landmark plain)) examples ≡ map (λ (x : LandmarkExample). x.offsets) examples
  one_found : is_landmark plain one 8 6 ≡ true

computed : Computed
unfolding examples offsets_found offsets_below all_true any_below
    levels_of tail_note_before object_serves streak_serves pattern_serves ends_at pattern_found streak_found landmark_found is_landmark
    scan end_state tabulate gathered opened group_count group_numbers sizes_from group_sizes firsts_from group_firsts
    is_note notes note_idx note_before previous_note continues opens_streak streak_marks streak_of streak_lengths streak_types
    opens_pattern pattern_marks coupled_at coupled patterns_open first_lengths streak_counts pattern_types alternating_of coupled_patterns
computed = record { examples_right = refl; one_found = refl }

-- so there are landmarks
one_landmark : ColourLandmark one 8 6
one_landmark = test_landmark one 8 6 computed.one_found
