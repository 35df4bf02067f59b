-- From a rhythm landmark on the marks are those of the tail alone: nothing of f64 is used but that the same test of the same values has one answer.
use mathlib.Core.Path.{◌≡◌, sym, ◌∙◌, subst}
use mathlib.Core.Logic.{◌⊎◌, inl, inr}
use mathlib.Core.Bool.{true}
use mathlib.Core.List.{List}
use Prim.Native.Nat.{ℕ, suc, ◌+◌, ◌-◌, ◌≤◌}
use native.Mathlib.Omega.{arith}
use lib.ListN.{length, drop, get_or}
use lib.Ieee.{Float, nan}
use Rattle.grouping_interval.specs.IntervalGrouping.{pair_class, marks_after, interval_marks}
use Rattle.grouping_interval.proofs.SyncLaws.{marks_from_lem}
use Rattle.agreement.specs.CommonTail.{Counterparts, SameLast}
use Rattle.agreement.specs.rhythm.Landmark.{RhythmLandmark}
use Rattle.agreement.proofs.TailLaws.{last_sym, same_behind, same_at}

-- the marks from a landmark on
pub landmark_marks : (margin : Float) (deltas : List Float) (t i : ℕ) → RhythmLandmark margin deltas t i
    → drop i (interval_marks margin deltas) ≡ marks_after (pair_class margin) true (get_or deltas (i - 1) nan) (drop i deltas)
landmark_marks margin deltas t i m =
    let e : suc (i - 1) ≡ i = omega (arith, m.before_there) in
    subst (λ (n : ℕ). drop n (interval_marks margin deltas) ≡ marks_after (pair_class margin) true (get_or deltas (i - 1) nan) (drop n deltas)) e
    (marks_from_lem margin deltas (i - 1) (omega (arith, m.next_there)) (rw e m.near))

-- ---- two lists whose last t deltas are alike

module _ {t : ℕ} {xs ys : List Float} (s : SameLast t xs ys) (margin : Float) (i i' : ℕ)
    (c : Counterparts (length xs) (length ys) i i') (m : RhythmLandmark margin xs t i) where
  same_delta : (p q : ℕ) → i - 1 ≤ p → Counterparts (length xs) (length ys) p q → get_or xs p nan ≡ get_or ys q nan
  same_delta p q l d = same_at s p q (omega (arith, m.of_tail)) d nan

  before : get_or xs (i - 1) nan ≡ get_or ys (i' - 1) nan
  before = same_delta (i - 1) (i' - 1) (omega arith) (omega (arith, m.before_there, m.of_tail, s.inside'))

  here : get_or xs i nan ≡ get_or ys i' nan
  here = same_delta i i' (omega arith) c

  next : get_or xs (i + 1) nan ≡ get_or ys (i' + 1) nan
  next = same_delta (i + 1) (i' + 1) (omega arith) (omega arith)

  -- a landmark of the one list is one of the other
  landmark_moves : RhythmLandmark margin ys t i'
  landmark_moves = record {
    before_there = omega (arith, m.before_there, m.of_tail, s.inside');
    next_there = omega (arith, m.next_there);
    of_tail = omega (arith, m.before_there, m.of_tail, s.inside');
    near = rw (← before, ← here) m.near;
    not_near = rw (← here, ← next) m.not_near;
  }

  -- from a landmark on the marks are equal
  pub marks_agree : drop i (interval_marks margin xs) ≡ drop i' (interval_marks margin ys)
  marks_agree =
      landmark_marks margin xs t i m
      ∙ (λ k. marks_after (pair_class margin) true (before k) (same_behind s i i' (omega (arith, m.of_tail)) c k))
      ∙ sym (landmark_marks margin ys t i' landmark_moves)

-- a landmark read in either list is one of both
pub either_list : {t : ℕ} {xs ys : List Float} → SameLast t xs ys → (margin : Float) (i i' : ℕ) → Counterparts (length xs) (length ys) i i'
    → RhythmLandmark margin xs t i ⊎ RhythmLandmark margin ys t i' → RhythmLandmark margin xs t i
either_list s margin i i' c (inl m) = m
either_list s margin i i' c (inr m) = landmark_moves (last_sym s) margin i' i (sym c) m
