-- The walk over the groups' ends: the groups from a position on, and the invariant that k groups are behind `end`, of which the last lies from `at` to `end`.
use mathlib.Core.Path.{◌≡◌, refl, ap, ◌∙◌}
use mathlib.Core.Bool.{Bool, true, false}
use mathlib.Core.List.{List, [], ◌∷◌}
use Prim.Native.Nat.{ℕ, zero, suc, ◌+◌, ◌-◌, ◌≤◌, ◌<◌}
use native.Mathlib.Numerals.{add-one}
use native.Mathlib.Omega.{arith}
use lib.Dec.{ltb}
use lib.ListN.{length, drop, get_or, drop_of_length-le}
use lib.Seq.{drop-drop, get_or-drop}
use lib.Ieee.{Float}
use borrow.Author.Tests.{ltb-true, ltb-false}
use Rattle.lent.specs.Over.{part}
use Rattle.grouping_marks.specs.Marks.{group_count}
use Rattle.grouping_marks.specs.Parted.{parted}
use Rattle.lent.proofs.PieceLaws.{part_pieces, part-rest}
use Rattle.grouping_interval.specs.IntervalGrouping.{pair_class, interval_marks}
use Rattle.grouping_interval.specs.GroupEnd.{group_end}
use Rattle.grouping_interval.specs.passes.MarkPass.{marks_from}
use Rattle.grouping_interval.proofs.EndLaws.{end_after_lem, end-within, marks_all, parted-end, parted_past, count_from_lem, count_past}
use Rattle.grouping_same_rhythm.specs.passes.Owns.{settled_up_to}

-- ---- the groups from a position on

-- the items of the groups from position `at` on, where a group opens
unfoldable pub groups_from : {A : Type 0} → Float → List Float → List A → ℕ → List (List A)
groups_from margin values xs at = parted (marks_from (pair_class margin) (ltb 2 (length values)) (drop at values)) (drop at xs)

module _ {A : Type 0} (margin : Float) (values : List Float) (xs : List A) where
  pub groups_all : parted (interval_marks margin values) xs ≡ groups_from margin values xs 0
  unfolding groups_from
  groups_all = rw (marks_all margin values)

  -- the group that opens there, and those from its end on
  pub groups_next : length xs ≡ length values → (at : ℕ) → at < length values
      → groups_from margin values xs at ≡ part at (group_end margin values at - at) xs ∷ groups_from margin values xs (group_end margin values at)
  unfolding groups_from
  groups_next l at h =
      parted-end margin values xs at h l
      ∙ rw (part_pieces at (group_end margin values at - at) xs)

  pub groups_past : (at : ℕ) → length values ≤ at → groups_from margin values xs at ≡ []
  unfolding groups_from
  groups_past at h = rw (drop_of_length-le values h) (parted_past margin (ltb 2 (length values)) (drop at xs))

module _ (margin : Float) (deltas : List Float) where
  none_left : (at : ℕ) → length deltas ≤ at → settled_up_to 0 (groups_from margin deltas deltas at) ≡ drop at deltas
  unfolding settled_up_to
  none_left at h = rw (groups_past margin deltas deltas at h, drop_of_length-le deltas h)

  within : (n at : ℕ) → length deltas ≤ at + n → settled_up_to 0 (groups_from margin deltas deltas at) ≡ drop at deltas
  unfolding settled_up_to
  within zero at h = none_left at (omega arith)
  within (suc n) at h = by (ltb at (length deltas)) refl (group_end margin deltas at) refl (within n (group_end margin deltas at))
    where
      by : (b : Bool) → ltb at (length deltas) ≡ b → (end : ℕ) → group_end margin deltas at ≡ end
          → (length deltas ≤ end + n → settled_up_to 0 (groups_from margin deltas deltas end) ≡ drop end deltas)
          → settled_up_to 0 (groups_from margin deltas deltas at) ≡ drop at deltas
      by false t end e f = none_left at (ltb-false at (length deltas) t)
      by true t end e f =
          let k : at < length deltas = ltb-true at (length deltas) t in
          let a : at < end = rw e at (end_after_lem margin deltas at k) in
          let u : groups_from margin deltas deltas at ≡ part at (end - at) deltas ∷ groups_from margin deltas deltas end =
          rw e at (groups_next margin deltas deltas refl at k) in
          rw (u, f (omega arith)) (part-rest at end deltas (omega arith))

  -- groups none of which is put in order are their items
  pub as_they_are : (at : ℕ) → settled_up_to 0 (groups_from margin deltas deltas at) ≡ drop at deltas
  as_they_are at = within (length deltas) at (omega arith)

-- ---- the walk

-- group j is the notes from `at` to `end`
pub record Notes (margin : Float) (deltas : List Float) (at end j : ℕ) : Type 0 where
  pub from : at < end
  pub here : (xs : List ℕ) → length xs ≡ length deltas → get_or (parted (interval_marks margin deltas) xs) j [] ≡ part at (end - at) xs

-- k groups are behind `end`, and the last of them, if there is one, lies from `at` to `end`
pub record Walk (margin : Float) (deltas : List Float) (at end k : ℕ) : Type 0 where
  pub upto : end ≤ length deltas
  pub few : k ≤ end
  pub count : k + group_count (marks_from (pair_class margin) (ltb 2 (length deltas)) (drop end deltas)) ≡ group_count (interval_marks margin deltas)
  pub rest : (xs : List ℕ) → length xs ≡ length deltas → drop k (parted (interval_marks margin deltas) xs) ≡ groups_from margin deltas xs end
  pub last : (j : ℕ) → k ≡ suc j → Notes margin deltas at end j

pub walk_start : (margin : Float) (deltas : List Float) → Walk margin deltas 0 0 0
walk_start margin deltas = record {
  upto = omega arith;
  few = omega arith;
  count = omega (arith, ap group_count (marks_all margin deltas));
  rest = λ xs l. groups_all margin deltas xs;
  last = λ j e. absurd (omega arith);
}

module _ {margin : Float} {deltas : List Float} {at end k : ℕ} (x : Walk margin deltas at end k) where
  -- while a group is to come, a note is
  pub walk_open : k < group_count (interval_marks margin deltas) → end < length deltas
  walk_open h = by (ltb end (length deltas)) refl
    where
      by : (b : Bool) → ltb end (length deltas) ≡ b → end < length deltas
      by true t = ltb-true end (length deltas) t
      by false t =
          let many : Bool = ltb 2 (length deltas) in
          let p : length deltas ≤ end = ltb-false end (length deltas) t in
          let z : group_count (marks_from (pair_class margin) many (drop end deltas)) ≡ 0 =
          rw (drop_of_length-le deltas p) (count_past margin many) in
          absurd (omega (arith, x.count))

  pub walk_turn : end < length deltas → Walk margin deltas end (group_end margin deltas end) (suc k)
  walk_turn h =
      let new : ℕ = group_end margin deltas end in
      let a : end < new = end_after_lem margin deltas end h in
      let f : k ≤ end = x.few in
      record {
        upto = end-within margin deltas end h;
        few = omega arith;
        count = omega (arith, x.count, count_from_lem margin deltas end h);
        rest = λ xs l.
            rw (← add-one k, ← drop-drop 1 k (parted (interval_marks margin deltas) xs), x.rest xs l, groups_next margin deltas xs l end h);
        last = λ j e. record {
          from = a;
          here = λ xs l.
              let z : k + 0 ≡ j = omega arith in
              rw (← z, ← get_or-drop k (parted (interval_marks margin deltas) xs) 0 [], x.rest xs l, groups_next margin deltas xs l end h);
        };
      }
