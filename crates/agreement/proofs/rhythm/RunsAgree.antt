-- Two runs of `group_by_interval` on the deltas of two charts' notes: what they leave in lent memory agrees from a rhythm landmark on, by the promise alone.
use mathlib.Core.Path.{◌≡◌, ◌∙◌}
use mathlib.Core.Logic.{◌⊎◌}
use mathlib.Core.List.{List}
use Prim.Native.Nat.{ℕ}
use native.Mathlib.Omega.{arith}
use lib.ListN.{length}
use lib.Ieee.{Float}
use Rattle.grouping_marks.specs.Marks.{group_numbers}
use Rattle.lent.proofs.PieceLaws.{get_or-over}
use Rattle.grouping_marks.proofs.MarksLaws.{length-numbers}
use Rattle.grouping_interval.specs.IntervalGrouping.{interval_marks}
use Rattle.grouping_interval.specs.GroupByInterval.{GroupedByInterval}
use Rattle.grouping_interval.proofs.IntervalLaws.{length_marks}
use Rattle.agreement.specs.CommonTail.{Counterparts, SameLast}
use Rattle.agreement.specs.SameGroups.{groups, SameGroups}
use Rattle.agreement.specs.rhythm.Landmark.{RhythmLandmark}
use Rattle.agreement.proofs.GroupLaws.{SameNumbers, groups-alike}
use Rattle.agreement.proofs.rhythm.Claimed.{rhythm_claim}

-- a run leaves each note's group number
numbers_left : {margin : Float} {values : List Float} {old new : List ℕ} {r : ℕ} → GroupedByInterval margin values old new r
    → SameNumbers (length values) (group_numbers (interval_marks margin values)) new
numbers_left {margin} {values} {old} g = record { at = λ p h. rw g.numbers (get_or-over numbers old p 0 (omega (arith, long))) }
  where
    numbers : List ℕ
    numbers = group_numbers (interval_marks margin values)

    long : length numbers ≡ length values
    long = length-numbers (interval_marks margin values) ∙ length_marks margin values

pub runs_agree : (margin : Float) {t : ℕ} {xs ys : List Float} → SameLast t xs ys → (i i' : ℕ) → Counterparts (length xs) (length ys) i i'
    → RhythmLandmark margin xs t i ⊎ RhythmLandmark margin ys t i'
    → {old new old' new' : List ℕ} {r r' : ℕ} → GroupedByInterval margin xs old new r → GroupedByInterval margin ys old' new' r'
    → SameGroups (groups (length xs) new) i (groups (length ys) new') i'
runs_agree margin s i i' c m g g' = groups-alike (numbers_left g) (numbers_left g') (rhythm_claim margin s i i' c m)
