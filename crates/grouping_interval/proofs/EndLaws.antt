-- What may be cited of where a group ends: it depends on what stands from the group's first value on, and the groups' items and their count unroll from end to
-- end, since the marks of one group, by `marks_at`, are 1 and zeros up to its end.
use mathlib.Core.Path.{◌≡◌, refl, sym, ap, ◌∙◌}
use mathlib.Core.Bool.{Bool, true, false}
use mathlib.Core.List.{List, [], ◌∷◌, ◌++◌}
use Prim.Native.Nat.{ℕ, suc, ◌+◌, ◌-◌, ◌≤◌, ◌<◌}
use native.Mathlib.Omega.{arith}
use lib.Dec.{ltb}
use lib.ListN.{length, take, drop, get_or, replicate, length-drop}
use lib.Seq.{drop-cons, drop-drop}
use lib.Ieee.{Float, nan}
use borrow.Author.Tests.{ltb-true, ltb-false}
use Rattle.grouping_marks.specs.Marks.{group_count}
use Rattle.grouping_marks.specs.Parted.{parted}
use Rattle.grouping_marks.proofs.MarksLaws.{count_none}
use Rattle.grouping_marks.proofs.PartedLaws.{parted_none, parted_first, count_first}
use Rattle.grouping_interval.specs.IntervalGrouping.{pair_class}
use Rattle.grouping_interval.specs.GroupEnd.{grow, group_end}
use Rattle.grouping_interval.specs.passes.MarkPass.{marks_from}
use Rattle.grouping_interval.proofs.GroupLaws.{marks_at, grown}
pub use Rattle.grouping_interval.proofs.GroupLaws.{end_past, end_after_lem, end-within, marks_all}

-- ---- what it depends on

-- the end, from what stands from `at` on
grown_from : (margin : Float) (v : List Float) (at : ℕ) → at < length v
    → group_end margin v at ≡ suc at + grow (pair_class margin) (ltb 2 (length v)) (get_or (drop at v) 0 nan) (drop 1 (drop at v))
grown_from margin v at h =
    rw (drop-cons v at nan h) (grown margin v at h)

-- on what stands from `at` on, and on how many values there are
pub end_same : (margin : Float) (xs ys : List Float) (at : ℕ) → length xs ≡ length ys → drop at xs ≡ drop at ys
    → group_end margin xs at ≡ group_end margin ys at
end_same margin xs ys at l e = by (ltb at (length xs)) refl
  where
    by : (b : Bool) → ltb at (length xs) ≡ b → group_end margin xs at ≡ group_end margin ys at
    by true t =
        let h : at < length xs = ltb-true at (length xs) t in
        grown_from margin xs at h ∙ rw (e, l, grown_from margin ys at (omega arith))
    by false t =
        let h : length xs ≤ at = ltb-false at (length xs) t in
        end_past margin xs at h ∙ sym (end_past margin ys at (omega arith))

-- ---- the groups' items and their count

-- the first mark, if there is one, is 1
opens_first : (margin : Float) (many : Bool) (values : List Float) → get_or (marks_from (pair_class margin) many values) 0 1 ≡ 1
unfolding marks_from
opens_first margin many [] = refl
opens_first margin many (v ∷ rest) = refl

-- the items from a group's first one on: those up to the group's end, and the groups from there on
pub parted-end : {A : Type 0} (margin : Float) (values : List Float) (xs : List A) (at : ℕ) → at < length values → length xs ≡ length values
    → parted (marks_from (pair_class margin) (ltb 2 (length values)) (drop at values)) (drop at xs)
    ≡ take (group_end margin values at - at) (drop at xs)
    ∷ parted (marks_from (pair_class margin) (ltb 2 (length values)) (drop (group_end margin values at) values)) (drop (group_end margin values at) xs)
parted-end {A} margin values xs at h l =
    rw (marks_at margin values at h)
    (by (group_end margin values at) (end_after_lem margin values at h) (end-within margin values at h) (drop at xs) refl)
  where
    by : (end : ℕ) → at < end → end ≤ length values → (ys : List A) → drop at xs ≡ ys
        → parted (1 ∷ replicate (end - at - 1) 0 ++ marks_from (pair_class margin) (ltb 2 (length values)) (drop end values)) ys
        ≡ take (end - at) ys ∷ parted (marks_from (pair_class margin) (ltb 2 (length values)) (drop end values)) (drop end xs)
    by end a w [] e = absurd (omega (arith, ap length e, length-drop at xs))
    by end a w (y ∷ ys) e =
        let many : Bool = ltb 2 (length values) in
        let k : ℕ = end - at - 1 in
        let rest : List ℕ = marks_from (pair_class margin) many (drop end values) in
        let s : suc k ≡ end - at = omega arith in
        let p : at + suc k ≡ end = omega arith in
        let d : drop k ys ≡ drop end xs = ap (drop (suc k)) (sym e) ∙ drop-drop (suc k) at xs ∙ ap (λ (n : ℕ). drop n xs) p in
        parted_first 1 k rest y ys (omega (arith, ap length e, length-drop at xs)) (opens_first margin many (drop end values))
        ∙ ap (λ (n : ℕ). take n (y ∷ ys) ∷ parted rest (drop k ys)) s
        ∙ rw d

-- past the last value there is no group
pub parted_past : {A : Type 0} (margin : Float) (many : Bool) (xs : List A) → parted (marks_from (pair_class margin) many []) xs ≡ []
unfolding marks_from
parted_past margin many xs = parted_none xs

pub count_past : (margin : Float) (many : Bool) → group_count (marks_from (pair_class margin) many []) ≡ 0
unfolding marks_from
count_past margin many = count_none [] refl

-- one group, and those from its end on
pub count_from_lem : (margin : Float) (values : List Float) (at : ℕ) → at < length values
    → group_count (marks_from (pair_class margin) (ltb 2 (length values)) (drop at values))
    ≡ 1 + group_count (marks_from (pair_class margin) (ltb 2 (length values)) (drop (group_end margin values at) values))
count_from_lem margin values at h =
    ap group_count (marks_at margin values at h)
    ∙ count_first 1 (group_end margin values at - at - 1) _ (opens_first margin (ltb 2 (length values)) (drop (group_end margin values at) values))
