-- What the call says is true of every choice of deltas inside the ranges. Of two notes that the grouping looks at, the class that is told is that of the
-- choice, so that the marks are the same; and where the ends are equal no class is open, so that the groups are those of the deltas.
use mathlib.Core.Path.{◌≡◌, refl, sym, ap, ◌∙◌}
use mathlib.Core.Logic.{◌⊎◌}
use mathlib.Core.Bool.{false}
use mathlib.Core.List.{List}
use Prim.Native.Nat.{ℕ, ◌+◌, ◌<◌}
use native.Mathlib.Omega.{arith}
use lib.Dec.{T}
use lib.ListN.{length, get_or}
use lib.Ieee.{Float, nan, binary64, fits}
use Rattle.grouping_marks.specs.Marks.{group_count, group_numbers}
use Rattle.numeric.specs.Constants.{zero64}
use Rattle.numeric.proofs.range.Laws.{within_ends}
use Rattle.grouping_chart.specs.Refusal.{accepted}
use Rattle.grouping_chart.specs.Settings.{Settings, Permitted}
use Rattle.grouping_chart.proofs.AcceptedLaws.{both_passed}
use Rattle.grouping_chart.proofs.SettingsLaws.{in_ranges}
use Rattle.grouping_interval.specs.Notes.{note_objects, of_notes}
use Rattle.grouping_interval.specs.IntervalGrouping.{pair_class, interval_marks}
use Rattle.grouping_interval.proofs.IntervalLaws.{marks_by_class}
use Rattle.grouping_interval.proofs.NoteLaws.{length_note_objects, length_of_notes, object-below, of_notes_at}
use Rattle.grouping_interval.proofs.ClassLaws.{marks_agree, nowhere_looked_at}
use Rattle.grouping_ranges.specs.Choices.{GoodRange, Inside, Sure}
use Rattle.grouping_ranges.proofs.SureLaws.{sure_classes, open_or_had, only, low_in, equal_ends_sure}
use Rattle.call_rhythm.specs.Rhythm.{per_note, group_of, groups_in}
use Rattle.call_rhythm.proofs.MadeLaws.{group_of_made, groups_in_made}
use Rattle.call_taps.specs.Taps.{TapChart, tap_size, range_of, class_of, tap_marks, is_open, tap_groups_of, tap_groups_in}
use Rattle.grouping_chart.specs.Room.{refusal_beside}
use Rattle.call_taps.specs.Call.{Memory, answer_lengths, judged, filled}
use Rattle.call_taps.specs.Choices.{Held, Chosen, GivenBy}
use Rattle.call_taps.proofs.VerdictLaws.{TapsPassed, tap_passed, range_good}
use Rattle.call_taps.proofs.CallLaws.{answer_left, memory_left}

module _ (s : Settings) (margin_held : T (fits binary64 s.margin)) (t : TapChart) (m : Memory) (good : judged s t m ≡ accepted)
    (held : Held t) where
  passed : TapsPassed t (refusal_beside s (tap_size t) (answer_lengths m) (length m.work) (length m.scratch))
  passed = tap_passed t _ good

  permitted : Permitted s
  permitted = (both_passed _ _ passed.room).1

  -- each range is one that no call refuses
  pub good_range : (o : ℕ) → o < tap_size t → GoodRange (range_of t o)
  unfolding range_of
  good_range o h =
      let r = range_good (range_of t o) (passed.objects o h).delta in
      record { held_low = held.low o; held_high = held.high o; low = r.0; high = r.1.0; in_order = r.1.1 }

  -- so of two objects the call tells what is sure of them
  pub pair_sure : (o p : ℕ) → o < tap_size t → p < tap_size t → Sure s.margin (range_of t o) (range_of t p)
  pair_sure o p h k = sure_classes s permitted margin_held (range_of t o) (range_of t p) (good_range o h) (good_range p k)

  note_inside : (j : ℕ) → j < length (note_objects t.kinds) → get_or (note_objects t.kinds) j 0 < tap_size t
  note_inside j h = object-below t.kinds j h

  -- ---- every choice

  module _ {deltas : List Float} (chosen : Chosen t deltas) where
    -- note number j's delta lies in the range of its object
    note_chosen : (j : ℕ) → j < length (note_objects t.kinds) → Inside (range_of t (get_or (note_objects t.kinds) j 0)) (get_or (of_notes t.kinds deltas) j nan)
    note_chosen j h = rw (of_notes_at t.kinds deltas chosen.each j h) (chosen.inside (get_or (note_objects t.kinds) j 0) (note_inside j h))

    class_had : (j : ℕ) → j + 1 < length (note_objects t.kinds)
        → (class_of s.margin t (get_or (note_objects t.kinds) j 0) (get_or (note_objects t.kinds) (j + 1) 0) ≡ 3)
        ⊎ (pair_class s.margin (get_or (of_notes t.kinds deltas) j nan) (get_or (of_notes t.kinds deltas) (j + 1) nan)
        ≡ class_of s.margin t (get_or (note_objects t.kinds) j 0) (get_or (note_objects t.kinds) (j + 1) 0))
    unfolding class_of
    class_had j h =
        let o = get_or (note_objects t.kinds) j 0 in
        let p = get_or (note_objects t.kinds) (j + 1) 0 in
        open_or_had s.margin (range_of t o) (range_of t p) (pair_sure o p (note_inside j (omega arith)) (note_inside (j + 1) h)) _ _
        (note_chosen j (omega arith)) (note_chosen (j + 1) h)

    module _ (sure : is_open s.margin t ≡ false) where
      -- the marks are those of the choice
      marks_had : tap_marks s.margin t ≡ interval_marks s.margin (of_notes t.kinds deltas)
      unfolding tap_marks is_open
      marks_had =
          marks_agree (class_of s.margin t) (pair_class s.margin) (note_objects t.kinds) (of_notes t.kinds deltas) 0 nan
          (length_of_notes t.kinds deltas chosen.each ∙ sym (length_note_objects t.kinds)) 3 class_had sure
          ∙ sym (marks_by_class s.margin (of_notes t.kinds deltas))

      number_had : tap_groups_in s.margin t ≡ groups_in s.margin t.kinds deltas
      unfolding tap_groups_in
      number_had = ap group_count marks_had ∙ sym (groups_in_made s.margin t.kinds deltas)

      groups_had : tap_groups_of s.margin t ≡ group_of s.margin t.kinds deltas
      unfolding tap_groups_of
      groups_had =
          ap (λ marks. per_note 65535 (λ j. get_or (group_numbers marks) j 0) t.kinds) marks_had ∙ sym (group_of_made s.margin t.kinds deltas)

      -- and so are the groups that the call gives
      pub given_by_choice : GivenBy s t m deltas
      unfolding filled
      given_by_choice = record {
        number = answer_left s t m good ∙ rw (sure, number_had) refl;
        group = rw (memory_left s t m good, sure, groups_had) refl;
      }

  -- ---- equal ends

  module _ (equal : t.highest ≡ t.lowest) where
    one_value : (o : ℕ) → range_of t o ≡ only (get_or t.lowest o nan)
    unfolding range_of
    one_value o = λ i. record { low = get_or t.lowest o nan; high = get_or (equal i) o nan }

    only_good : (o : ℕ) → o < tap_size t → GoodRange (only (get_or t.lowest o nan))
    only_good o h = rw one_value at (good_range o h)

    class_known : (o p : ℕ) → o < tap_size t → p < tap_size t → class_of s.margin t o p ≡ 3 → ⊥
    unfolding class_of
    class_known o p h k e =
        equal_ends_sure s.margin (only_good o h) (only_good p k) (within_ends zero64 _ s.margin (in_ranges permitted).margin).0
        (rw (one_value o, one_value p) at e)

    none_open : is_open s.margin t ≡ false
    unfolding is_open
    none_open =
        nowhere_looked_at (class_of s.margin t) 0 3 (note_objects t.kinds)
        (λ i h. class_known _ _ (note_inside i (omega arith)) (note_inside (i + 1) h))

    own_chosen : Chosen t t.lowest
    own_chosen = record { each = passed.long.lowest; inside = λ o h. rw one_value (low_in (only_good o h)) }

    -- give what the call rhythm gives of the deltas
    pub given_by_equal_ends : GivenBy s t m t.lowest
    given_by_equal_ends = given_by_choice own_chosen none_open
