-- The group numbers along a walk over the groups' ends. At each end, with `number` groups behind it, the numbers from there on are those that the marks from
-- there on give behind so many groups; and the values of the next group have the number `number`.
use mathlib.Core.Path.{◌≡◌, ap, ◌∙◌}
use mathlib.Core.List.{List, ◌++◌}
use Prim.Native.Nat.{ℕ, suc, ◌+◌, ◌-◌, ◌≤◌, ◌<◌}
use native.Mathlib.Omega.{arith}
use lib.Dec.{ltb}
use lib.ListN.{length, drop, get_or, replicate, length-replicate, get_or-replicate, get_or-append}
use lib.Seq.{drop_at, drop-drop, get_or-drop}
use lib.Ieee.{Float}
use Rattle.grouping_marks.specs.Marks.{group_numbers}
use Rattle.grouping_marks.proofs.NumberLaws.{numbers_from, numbers_all, numbers-group}
use Rattle.grouping_interval.specs.IntervalGrouping.{pair_class, interval_marks}
use Rattle.grouping_interval.specs.GroupEnd.{group_end}
use Rattle.grouping_interval.specs.passes.MarkPass.{marks_from}
use Rattle.grouping_interval.proofs.GroupLaws.{marks_all, marks_at, end_after_lem}

-- the numbers from `at` on, where `number` groups end before it
pub record Numbering (margin : Float) (values : List Float) (number at : ℕ) : Type 0 where
  pub left : drop at (group_numbers (interval_marks margin values))
      ≡ numbers_from number (marks_from (pair_class margin) (ltb 2 (length values)) (drop at values))
  pub few : number ≤ at

pub numbering_start : (margin : Float) (values : List Float) → Numbering margin values 0 0
numbering_start margin values = record {
  left = numbers_all (interval_marks margin values) ∙ ap (numbers_from 0) (marks_all margin values);
  few = omega arith;
}

module _ {margin : Float} {values : List Float} {number at : ℕ} (x : Numbering margin values number at) (h : at < length values)
    (end : ℕ) (e : end ≡ group_end margin values at) where
  -- the numbers behind the group that starts at `at`
  behind : List ℕ
  behind = numbers_from (number + 1) (marks_from (pair_class margin) (ltb 2 (length values)) (drop end values))

  here_on : drop at (group_numbers (interval_marks margin values)) ≡ replicate (end - at) number ++ behind
  unfolding behind
  here_on =
      let b : at < end = rw e (end_after_lem margin values at h) in
      let s : suc (end - at - 1) ≡ end - at = omega arith in
      let rest : List ℕ = marks_from (pair_class margin) (ltb 2 (length values)) (drop end values) in
      x.left
      ∙ ap (numbers_from number) (rw e (marks_at margin values at h))
      ∙ numbers-group number (end - at - 1) rest
      ∙ ap (λ (n : ℕ). replicate n number ++ numbers_from (number + 1) rest) s

  pub numbering_next : Numbering margin values (number + 1) end
  unfolding behind
  numbering_next =
      let b : at < end = rw e (end_after_lem margin values at h) in
      let z : at + (end - at) ≡ end = omega arith in
      let numbers : List ℕ = group_numbers (interval_marks margin values) in
      let d : drop end numbers ≡ drop (end - at) (drop at numbers) = rw (drop-drop (end - at) at numbers, z) in
      record {
        left =
            rw (d, here_on) (drop_at (replicate (end - at) number) behind (end - at) (length-replicate (end - at) number));
        few = omega (arith, x.few);
      }

  pub numbering_here : (g : ℕ) → at ≤ g → g < end → get_or (group_numbers (interval_marks margin values)) g 0 ≡ number
  numbering_here g a b =
      let z : at + (g - at) ≡ g = omega arith in
      let numbers : List ℕ = group_numbers (interval_marks margin values) in
      let d : get_or numbers g 0 ≡ get_or (drop at numbers) (g - at) 0 = rw (get_or-drop at numbers (g - at) 0, z) in
      rw (d, here_on) (get_or-append (replicate (end - at) number) behind 0 (g - at) (omega (arith, length-replicate (end - at) number)))
      ∙ get_or-replicate (end - at) (g - at) number 0 (omega arith)
