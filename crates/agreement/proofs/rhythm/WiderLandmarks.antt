-- Where the rhythm landmark is taken more widely than the scope takes it, the claim fails: for each wider landmark two lists of deltas, with the margin 5.0.
use mathlib.Core.Path.{◌≡◌, refl}
use mathlib.Core.Logic.{inl}
use mathlib.Core.Bool.{Bool, true, not}
use mathlib.Core.List.{List, [], ◌∷◌}
use Prim.Native.Nat.{ℕ, ◌+◌, ◌-◌}
use lib.Dec.{ltb, leb}
use lib.ListN.{length, get_or}
use lib.Ieee.{Float, nan, round, add, sub, le, lt, of_int}
use Rattle.numeric.specs.Near.{abs_of, is_near}
use Rattle.lent.specs.Scan.{scan}
use Rattle.grouping_marks.specs.Marks.{opened, group_numbers}
use Rattle.grouping_interval.specs.IntervalGrouping.{is_rise, pair_class, marks_after, class_marks, interval_marks}
use Rattle.agreement.specs.passes.Tests.{all_true, any_below}
use Rattle.agreement.specs.passes.RhythmLandmarkTest.{is_rhythm_landmark}
use Rattle.agreement.proofs.Readings.{Reading, ClaimFrom, opens_there, refutes, refuted}
use Rattle.agreement.proofs.rhythm.Examples.{margin, wholes}
use Rattle.agreement.proofs.rhythm.LandmarkLaws.{test_landmark}
use Rattle.agreement.proofs.rhythm.Claimed.{rhythm_claim}

-- the notes' group numbers
abbrev numbers : List Float → List ℕ
numbers deltas = group_numbers (interval_marks margin deltas)

-- the scope's own landmark: the claim holds
plain-holds : ClaimFrom numbers (is_rhythm_landmark margin)
plain-holds xs ys t i i' s c e = rhythm_claim margin s i i' c (inl (test_landmark margin xs t i e))

-- ---- readings, each true of note i where note i − 1 is of the tail, the last t notes, and more holds

unfoldable of_tail : List Float → ℕ → ℕ → Bool
of_tail deltas t i = all_true (ltb 0 i ∷ leb (length deltas) (i - 1 + t) ∷ [])

-- notes i and i + 1 are near; note i + 1 rises from note i
unfoldable near_at : List Float → ℕ → Bool
near_at deltas i = is_near margin (get_or deltas i nan) (get_or deltas (i + 1) nan)

unfoldable rises_at : List Float → ℕ → Bool
rises_at deltas i = is_rise margin (get_or deltas i nan) (get_or deltas (i + 1) nan)

-- note i rises from note i − 1, and there is a note i + 1
unfoldable rise_before : Reading Float
rise_before deltas t i = all_true (of_tail deltas t i ∷ ltb (i + 1) (length deltas) ∷ rises_at deltas (i - 1) ∷ [])

-- the same, with the last two not near
unfoldable rise_then_not_near : Reading Float
rise_then_not_near deltas t i = all_true (of_tail deltas t i ∷ ltb (i + 1) (length deltas) ∷ rises_at deltas (i - 1) ∷ not (near_at deltas i) ∷ [])

-- notes i − 1 and i are near, and i may be the last
unfoldable near_before : Reading Float
near_before deltas t i = all_true (of_tail deltas t i ∷ near_at deltas (i - 1) ∷ [])

-- one note earlier, from the first of the three on
unfoldable note_earlier : Reading Float
note_earlier deltas t i = is_rhythm_landmark margin deltas t (i + 1)

-- ---- each fails

-- 100 before the tail 100 200 200, and nothing before it
abbrev rise : Bool
rise = refutes numbers rise_before (wholes (100 ∷ [])) [] (wholes (100 ∷ 200 ∷ 200 ∷ [])) 1

-- 100 before the tail 100 200 300, and nothing before it
abbrev rise_then_not_near_lem : Bool
rise_then_not_near_lem = refutes numbers rise_then_not_near (wholes (100 ∷ [])) [] (wholes (100 ∷ 200 ∷ 300 ∷ [])) 1

-- nothing before the tail 100 100, and 100 before it
abbrev last : Bool
last = refutes numbers near_before [] (wholes (100 ∷ [])) (wholes (100 ∷ 100 ∷ [])) 1

-- 50 before the tail 50 100 100 200, and nothing before it
abbrev earlier : Bool
earlier = refutes numbers note_earlier (wholes (50 ∷ [])) [] (wholes (50 ∷ 100 ∷ 100 ∷ 200 ∷ [])) 1

record Computed : Type 0 where
  rise_refuted : rise ≡ true
  rise_then_not_near_refuted : rise_then_not_near_lem ≡ true
  last_refuted : last ≡ true
  earlier_refuted : earlier ≡ true

computed : Computed
unfolding refutes opens_there all_true any_below rise_before rise_then_not_near near_before note_earlier of_tail near_at rises_at is_rhythm_landmark
    margin wholes scan opened group_numbers interval_marks class_marks marks_after pair_class is_rise is_near abs_of add sub le lt of_int round
computed = record { rise_refuted = refl; rise_then_not_near_refuted = refl; last_refuted = refl; earlier_refuted = refl }

rise_fails : ClaimFrom numbers rise_before → ⊥
rise_fails = refuted numbers rise_before _ _ _ _ computed.rise_refuted

rise_then_not_near_fails : ClaimFrom numbers rise_then_not_near → ⊥
rise_then_not_near_fails = refuted numbers rise_then_not_near _ _ _ _ computed.rise_then_not_near_refuted

last_fails : ClaimFrom numbers near_before → ⊥
last_fails = refuted numbers near_before _ _ _ _ computed.last_refuted

earlier_fails : ClaimFrom numbers note_earlier → ⊥
earlier_fails = refuted numbers note_earlier _ _ _ _ computed.earlier_refuted
