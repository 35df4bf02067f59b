-- A permitted set and the same set without signs give one outcome of rhythm: they have the same groups, and refuse the same.
use mathlib.Core.Path.{◌≡◌}
use Prim.Native.Nat.{ℕ}
use lib.ListN.{length, get_or}
use Rattle.lent.specs.Over.{over}
use Rattle.grouping_marks.specs.Marks.{group_count, group_numbers}
use Rattle.grouping_chart.specs.Chart.{Chart}
use Rattle.grouping_chart.specs.Outcome.{answered}
use Rattle.grouping_chart.specs.Room.{cleared_work, cleared_scratch}
use Rattle.grouping_chart.specs.Settings.{Settings, Permitted, unsigned}
use Rattle.grouping_chart.proofs.SettingsLaws.{InRanges, in_ranges}
use Rattle.grouping_chart.proofs.UnsignedLaws.{margin_not_negative, judged_unsigned}
use Rattle.grouping_interval.proofs.UnsignedLaws as interval
use Rattle.grouping_same_rhythm.proofs.UnsignedLaws.{marks_unsigned, intervals_unsigned, number_unsigned}
use Rattle.call_rhythm.specs.Rhythm.{per_note, note_group, group_of, pattern_group_of, groups_in, pattern_groups_in}
use Rattle.call_rhythm.specs.Call.{Memory, answer_lengths, filled, rhythm_outcome}

module _ {s : Settings} (r : InRanges s) where
  note_unsigned : note_group s.margin ≡ note_group (unsigned s).margin
  unfolding note_group
  note_unsigned = λ i kinds deltas j. get_or (group_numbers (marks_unsigned (margin_not_negative r) i kinds deltas)) j 0

  group_unsigned : group_of s.margin ≡ group_of (unsigned s).margin
  unfolding group_of
  group_unsigned = λ i kinds deltas. per_note 65535 (note_unsigned i kinds deltas) kinds

  pattern_unsigned : pattern_group_of s.margin ≡ pattern_group_of (unsigned s).margin
  unfolding pattern_group_of
  pattern_unsigned = λ i kinds starts deltas.
      let intervals = intervals_unsigned (margin_not_negative r) i kinds starts deltas in
      per_note 65535 (λ (j : ℕ). number_unsigned (margin_not_negative r) i intervals (note_unsigned i kinds deltas j)) kinds

  pub groups_unsigned : groups_in s.margin ≡ groups_in (unsigned s).margin
  unfolding groups_in
  groups_unsigned = λ i kinds deltas. group_count (marks_unsigned (margin_not_negative r) i kinds deltas)

  patterns_unsigned : pattern_groups_in s.margin ≡ pattern_groups_in (unsigned s).margin
  unfolding pattern_groups_in
  patterns_unsigned = λ i kinds starts deltas.
      group_count (interval.marks_unsigned (margin_not_negative r) i (intervals_unsigned (margin_not_negative r) i kinds starts deltas))

  filled_unsigned : filled s ≡ filled (unsigned s)
  unfolding filled
  filled_unsigned = λ i kinds starts deltas m. record {
    group = over (group_unsigned i kinds deltas) m.group;
    pattern = over (pattern_unsigned i kinds starts deltas) m.pattern;
    work = cleared_work (length kinds) m.work;
    scratch = cleared_scratch (length kinds) m.scratch;
  }

pub rhythm_unsigned : (s : Settings) → Permitted s → (c : Chart) (m : Memory) → rhythm_outcome s c m ≡ rhythm_outcome (unsigned s) c m
unfolding rhythm_outcome
rhythm_unsigned s p c m =
    let r = in_ranges p in
    λ i. answered (judged_unsigned r i c (answer_lengths m) m.work m.scratch)
    (record { groups = groups_unsigned r i c.kinds c.deltas; patterns = patterns_unsigned r i c.kinds c.starts c.deltas })
    (filled_unsigned r i c.kinds c.starts c.deltas m) m
