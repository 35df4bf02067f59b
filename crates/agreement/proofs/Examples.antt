-- The claim is not empty at the base's limit. A tail of 20 streaks of 1, 2, 3, 1, 2, 3 objects and so on, d and k in turn, has a landmark behind its fourth
-- streak, and every streak after that is a hit pattern of its own. So its last two objects, the twentieth streak, are of the sixteenth hit pattern and have the
-- colour values of the tail alone in every chart that ends so.
use mathlib.Core.Path.{◌≡◌, refl}
use mathlib.Core.Logic.{inl}
use mathlib.Core.List.{List, [], ◌∷◌}
use Prim.Native.Nat.{ℕ, ◌+◌, ◌-◌, ◌<◌}
use native.Mathlib.Omega.{arith}
use lib.ListN.{length, get_or}
use lib.Ieee.{Float, nan}
use Rattle.lent.specs.Over.{part}
use Rattle.lent.specs.Scan.{scan, end_state, tabulate, gathered}
use Rattle.grouping_marks.specs.Marks.{opened, group_count, group_numbers, sizes_from, group_sizes, firsts_from, group_firsts}
use Rattle.grouping_chart.specs.Object.{is_note, notes, note_idx, note_before, previous_note}
use Rattle.grouping_chart.specs.Chart.{Chart, size}
use Rattle.grouping_chart.specs.Settings.{base_settings}
use Rattle.grouping_hits.specs.RepeatingHitPatterns.{coupled_run, hit_size, hit_marks_after, hit_marks}
use Rattle.grouping_colour.specs.MonoStreak.{continues, opens_streak, streak_marks, streak_of, streak_lengths, streak_types}
use Rattle.grouping_colour.specs.AlternatingMonoPattern.{opens_pattern, pattern_marks, coupled_at, coupled}
use Rattle.grouping_preprocessor.specs.Preprocessor.{patterns_open, first_lengths, streak_counts, pattern_types, coupled_patterns, hits_open, alternating_of}
use Rattle.grouping_preprocessor.specs.Preprocessor.{hit_of}
use Rattle.evaluator_values.specs.Colour.{values_of}
use Rattle.call_colour.specs.Stretch.{has_note, stretch_refusal, GoodStretch, chart_mean}
use Rattle.agreement.specs.CommonTail.{SameLast}
use Rattle.agreement.specs.colour.Landmark.{ColourLandmark}
use Rattle.agreement.specs.colour.Claim.{hit_patterns, Settled, ColourClaim}
use Rattle.agreement.proofs.colour.RiseLaws.{pattern_rises}
use Rattle.agreement.proofs.colour.Claimed.{colour_claim}

abbrev tail : List ℕ
tail =
    0 ∷ 1 ∷ 1 ∷ 0 ∷ 0 ∷ 0 ∷ 1 ∷ 0 ∷ 0 ∷ 1 ∷ 1 ∷ 1 ∷ 0 ∷ 1 ∷ 1 ∷ 0 ∷ 0 ∷ 0
    ∷ 1 ∷ 0 ∷ 0 ∷ 1 ∷ 1 ∷ 1 ∷ 0 ∷ 1 ∷ 1 ∷ 0 ∷ 0 ∷ 0 ∷ 1 ∷ 0 ∷ 0 ∷ 1 ∷ 1 ∷ 1 ∷ 0 ∷ 1 ∷ 1 ∷ []

-- what computes: the landmark, by (a) object 1 with note 0 before it, (b) streaks 1 and 2, (c) patterns 2 and 3; and the last two objects' hit pattern
record Shown : Type 0 where
  landmark : ColourLandmark tail 39 7
  sixteenth : get_or (hit_of tail) 7 0 + 16 ≡ get_or (hit_of tail) 37 0 + 1
  last_two : GoodStretch tail 37 39

shown : Shown
unfolding scan end_state tabulate gathered opened group_count group_numbers sizes_from group_sizes firsts_from group_firsts
    is_note notes note_idx note_before previous_note continues opens_streak streak_marks streak_of streak_lengths streak_types
    opens_pattern pattern_marks coupled_at coupled patterns_open first_lengths streak_counts pattern_types alternating_of coupled_patterns
    coupled_run hit_size hit_marks_after hit_marks hits_open hit_of part has_note stretch_refusal
shown = record {
  landmark = record {
    object = 1;
    object_there = omega arith;
    object-opens = refl;
    note = 0;
    note_is = refl;
    note_before = omega arith;
    note_of_tail = omega arith;
    streak = 1;
    streak_after = omega arith;
    streak_next = omega arith;
    streak_unequal = λ e. let z : ◌≡◌ {A = ℕ} 2 3 = e in omega arith;
    streak-opens = refl;
    pattern = 2;
    pattern_from = omega arith;
    pattern_next = omega arith;
    pattern_uncoupled = refl;
    next_uncoupled = refl;
    last = 6;
    last_there = omega arith;
    last_of_second = refl;
    last_is_last = past;
    just_after = refl;
  };
  sixteenth = refl;
  last_two = refl;
}
  where
    -- the object behind the fourth streak is of the fifth pattern
    fifth : get_or (alternating_of tail) 7 0 ≡ 4
    fifth = refl

    past : (i : ℕ) → 6 < i → i < 39 → get_or (alternating_of tail) i 0 ≡ 3 → ⊥
    past i l h e = omega (arith, fifth, pattern_rises tail 7 i l h)

module _ (starts deltas ratios : List Float) (whole : length ratios ≡ 39) where
  -- the tail alone
  abbrev alone : Chart
  alone = record { kinds = tail; starts = starts; deltas = deltas; ratios = ratios }

  settled : Settled 16 (hit_patterns alone) 7 37
  settled = record { after = omega arith; there = omega arith; late = omega (arith, shown.sixteenth) }

  -- a chart that ends so
  module _ (c : Chart) (whole' : length c.ratios ≡ size c) (kinds-alike : SameLast 39 tail c.kinds) (ratios-alike : SameLast 39 ratios c.ratios) where
    claim : ColourClaim base_settings alone c 7 (size c - 32)
    claim = colour_claim base_settings alone c whole whole' kinds-alike ratios-alike (omega (arith, kinds-alike.inside')) (inl shown.landmark)

    -- its last object but one has the value that it has in the tail alone
    pub any_opening : get_or (values_of base_settings alone) 37 nan ≡ get_or (values_of base_settings c) (size c - 2) nan
    any_opening = claim.value 37 (size c - 2) settled (omega (arith, kinds-alike.inside'))

    -- and the stretch of its last two the mean
    pub any_stretch : chart_mean base_settings alone 37 39 ≡ chart_mean base_settings c (size c - 2) (size c)
    any_stretch = (claim.stretch 37 39 (size c - 2) (size c) settled shown.last_two (omega (arith, kinds-alike.inside')) (omega arith)).mean
