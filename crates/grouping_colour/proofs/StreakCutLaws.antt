-- Streaks: behind a cut, which objects open a streak hangs on the objects before it only up to their last note.
use mathlib.Core.Path.{◌≡◌, ap, ◌∙◌}
use mathlib.Core.List.{List, ◌++◌}
use mathlib.Core.Bool.{true}
use Prim.Native.Nat.{ℕ, ◌<◌}
use lib.ListN.{length, get_or}
use Rattle.lent.specs.Scan.{scan, end_state}
use Rattle.grouping_marks.specs.Marks.{group_sizes, group_firsts}
use Rattle.lent.proofs.ScanLaws.{length-scan, scan-append, after_append}
use Rattle.lent.proofs.WalkLaws.{after_hides, scan-alike}
use Rattle.grouping_marks.proofs.CutLaws.{Opening, sizes-cut, firsts-cut}
use Rattle.grouping_chart.specs.Object.{is_note}
use Rattle.grouping_chart.proofs.ObjectLaws.{Seen, seen₀, seen_next}
use Rattle.grouping_chart.proofs.SeenLaws.{Alike, previous_alike, next_alike, note_alike}
use Rattle.grouping_colour.specs.MonoStreak.{streak_marks, streak_lengths, streak_types}
use Rattle.grouping_colour.proofs.StreakLaws.{opens_seen, streak_marks_scan}
use Rattle.grouping_colour.proofs.LengthLaws.{length-streak_marks}

opens-alike : (s t : Seen) (k : ℕ) → Alike s t → opens_seen s k ≡ opens_seen t k
unfolding opens_seen
opens-alike s t k a = rw (previous_alike s t k a)

pub record HasNote (kinds : List ℕ) : Type 0 where
  pub place : ℕ
  pub inside : place < length kinds
  pub note : is_note (get_or kinds place 0) ≡ true

-- the marks of the kinds `back`, as the walk writes them when it comes there from the kinds `front`
unfoldable pub streak_marks_after : List ℕ → List ℕ → List ℕ
streak_marks_after front back = scan seen_next opens_seen (end_state seen_next seen₀ front) back

pub length-marks_after : (front back : List ℕ) → length (streak_marks_after front back) ≡ length back
unfolding streak_marks_after
length-marks_after front back = length-scan seen_next opens_seen (end_state seen_next seen₀ front) back

pub streak_marks-cut : (front back : List ℕ) → streak_marks (front ++ back) ≡ streak_marks front ++ streak_marks_after front back
unfolding streak_marks_after
streak_marks-cut front back =
    rw (streak_marks_scan (front ++ back), streak_marks_scan front) (scan-append seen_next opens_seen seen₀ front back)

-- with a note just before the cut in both charts, the marks behind it are the same
pub streak_marks-agree : (before before' shared back : List ℕ) → HasNote shared
    → streak_marks_after (before ++ shared) back ≡ streak_marks_after (before' ++ shared) back
unfolding streak_marks_after
streak_marks-agree before before' shared back n =
    rw (after_append seen_next seen₀ before shared, after_append seen_next seen₀ before' shared)
    (scan-alike seen_next Alike next_alike opens_seen opens-alike _ _ back
    (after_hides seen_next Alike next_alike 0 shared n.place n.inside (λ s t. note_alike s t (get_or shared n.place 0) n.note) _ _))

-- where the cut is at an object that opens a streak, so are the streaks' lengths and types cut
module _ (front back : List ℕ) (o : Opening (streak_marks_after front back)) where
  pub streak_lengths-cut : streak_lengths (front ++ back) ≡ streak_lengths front ++ group_sizes (streak_marks_after front back)
  unfolding streak_lengths
  streak_lengths-cut = ap group_sizes (streak_marks-cut front back) ∙ sizes-cut (streak_marks front) (streak_marks_after front back) o

  pub streak_types-cut : streak_types (front ++ back) ≡ streak_types front ++ group_firsts (streak_marks_after front back) back
  unfolding streak_types
  streak_types-cut =
      rw (streak_marks-cut front back)
      (firsts-cut (streak_marks front) (streak_marks_after front back) front back o (length-streak_marks front) (length-marks_after front back))
