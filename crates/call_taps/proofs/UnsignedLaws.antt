-- A permitted set and the same set without signs give one outcome of taps: two ranges have the same class, and what is refused is the same.
use mathlib.Core.Path.{◌≡◌}
use mathlib.Core.Bool.{cond}
use Prim.Native.Nat.{ℕ, ◌+◌}
use lib.Dec.{ltb}
use lib.ListN.{length, get_or}
use Rattle.std.specs.Prelude.{None, Some}
use Rattle.lent.specs.Over.{over}
use Rattle.grouping_marks.specs.Marks.{group_count, group_numbers}
use Rattle.grouping_chart.specs.Object.{notes}
use Rattle.grouping_chart.specs.Outcome.{answered}
use Rattle.grouping_chart.specs.Room.{cleared_work, cleared_scratch}
use Rattle.grouping_chart.specs.Settings.{Settings, Permitted, unsigned}
use Rattle.grouping_chart.proofs.SettingsLaws.{InRanges, in_ranges}
use Rattle.grouping_chart.proofs.UnsignedLaws.{margin_not_negative, beside_unsigned}
use Rattle.grouping_interval.specs.Notes.{note_objects}
use Rattle.grouping_interval.specs.IntervalGrouping.{class_marks}
use Rattle.grouping_interval.specs.LookedAt.{looked_at, among}
use Rattle.grouping_ranges.proofs.UnsignedLaws.{sure_unsigned}
use Rattle.call_rhythm.specs.Rhythm.{per_note}
use Rattle.call_taps.specs.Taps.{TapChart, tap_size, range_of, class_of, tap_marks, is_open, class_at, pairs_of, tap_groups_of, tap_groups_in}
use Rattle.call_taps.specs.Refusals.{tap_verdict}
use Rattle.call_taps.specs.Call.{Memory, answer_lengths, filled, taps_outcome}

module _ {s : Settings} (r : InRanges s) where
  class_unsigned : class_of s.margin ≡ class_of (unsigned s).margin
  unfolding class_of
  class_unsigned = λ i t a b. sure_unsigned (margin_not_negative r) i (range_of t a) (range_of t b)

  marks_unsigned : tap_marks s.margin ≡ tap_marks (unsigned s).margin
  unfolding tap_marks
  marks_unsigned = λ i t. class_marks (class_unsigned i t) (note_objects t.kinds)

  open_unsigned : is_open s.margin ≡ is_open (unsigned s).margin
  unfolding is_open
  open_unsigned = λ i t. among 3 (looked_at (class_unsigned i t) (note_objects t.kinds))

  at_unsigned : class_at s.margin ≡ class_at (unsigned s).margin
  unfolding class_at
  at_unsigned = λ i t j.
      cond (ltb (j + 1) (length (notes t.kinds)))
      (class_unsigned i t (get_or (note_objects t.kinds) j 0) (get_or (note_objects t.kinds) (j + 1) 0)) 255

  pairs_unsigned : pairs_of s.margin ≡ pairs_of (unsigned s).margin
  unfolding pairs_of
  pairs_unsigned = λ i t. per_note 255 (at_unsigned i t) t.kinds

  groups_unsigned : tap_groups_of s.margin ≡ tap_groups_of (unsigned s).margin
  unfolding tap_groups_of
  groups_unsigned = λ i t. per_note 65535 (λ (j : ℕ). get_or (group_numbers (marks_unsigned i t)) j 0) t.kinds

  count_unsigned : tap_groups_in s.margin ≡ tap_groups_in (unsigned s).margin
  unfolding tap_groups_in
  count_unsigned = λ i t. group_count (marks_unsigned i t)

  filled_unsigned : filled s ≡ filled (unsigned s)
  unfolding filled
  filled_unsigned = λ i t m. record {
    pair = over (pairs_unsigned i t) m.pair;
    group = cond (open_unsigned i t) m.group (over (groups_unsigned i t) m.group);
    work = cleared_work (tap_size t) m.work;
    scratch = cleared_scratch (tap_size t) m.scratch;
  }

pub taps_unsigned : (s : Settings) → Permitted s → (t : TapChart) (m : Memory) → taps_outcome s t m ≡ taps_outcome (unsigned s) t m
unfolding taps_outcome
taps_unsigned s p t m =
    let r = in_ranges p in
    λ i. answered (tap_verdict t (beside_unsigned r i (tap_size t) (answer_lengths m) (length m.work) (length m.scratch)))
    (cond (open_unsigned r i t) None (Some (count_unsigned r i t))) (filled_unsigned r i t m) m
