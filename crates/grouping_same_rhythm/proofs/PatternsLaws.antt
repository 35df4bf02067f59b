-- The pattern of a group: a pattern's interval, and the walk over the patterns' ends up to the pattern that holds the group.
-- Its invariant: the walk stands at pattern `number`, which starts at `at`, and where there is a pattern before, it lies from `before` to `at`.
use mathlib.Core.Path.{◌≡◌, refl, sym, ap, ◌∙◌}
use mathlib.Core.List.{List, [], ◌∷◌}
use Prim.Native.Nat.{ℕ, zero, suc, ◌+◌, ◌-◌, ◌≤◌, ◌<◌}
use native.Mathlib.Omega.{arith}
use lib.Dec.{ltb}
use lib.ListN.{length, take, drop, get_or}
use lib.Seq.{drop-drop, get_or-drop}
use lib.Ieee.{Float, nan, binary64, div}
use Rattle.numeric.specs.Constants.{one64}
use Rattle.lent.specs.Over.{part}
use Rattle.grouping_marks.specs.Parted.{parted}
use Rattle.lent.proofs.OverLaws.{length-part, get_or-part, lent-part}
use Rattle.lent.proofs.PieceLaws.{part_pieces}
use Rattle.grouping_interval.specs.IntervalGrouping.{pair_class, interval_marks}
use Rattle.grouping_interval.specs.GroupEnd.{group_end}
use Rattle.grouping_interval.specs.passes.MarkPass.{marks_from}
use Rattle.grouping_interval.proofs.NumberLaws.{Numbering, numbering_start, numbering_next, numbering_here}
use Rattle.grouping_interval.proofs.EndLaws.{end_after_lem, end-within, marks_all, parted-end}
use Rattle.grouping_same_rhythm.specs.SamePatterns.{pattern_interval, pattern_ratio, pattern_number, pattern_of}
use Rattle.grouping_same_rhythm.specs.declared.patterns.Pattern.{Pattern}

-- ---- a pattern's interval

pub interval-second : (l : List Float) → 1 < length l → get_or l 1 nan ≡ pattern_interval l
unfolding pattern_interval
interval-second [] h = absurd (omega arith)
interval-second (first ∷ []) h = absurd (omega arith)
interval-second (first ∷ second ∷ intervals) h = refl

pub interval_only : (l : List Float) → length l ≡ 1 → get_or l 0 nan ≡ pattern_interval l
unfolding pattern_interval
interval_only [] h = absurd (omega arith)
interval_only (first ∷ []) h = refl
interval_only (first ∷ second ∷ intervals) h = absurd (omega arith)

module _ (intervals : List Float) (at end : ℕ) (h : at < end) (u : end ≤ length intervals) where
  long : length (part at (end - at) intervals) ≡ end - at
  long = length-part at (end - at) intervals (omega arith)

  -- of two groups or more
  pub interval_two : at + 1 < end → get_or intervals (at + 1) nan ≡ pattern_interval (part at (end - at) intervals)
  interval_two t = sym (get_or-part at (end - at) intervals 1 nan (omega arith)) ∙ interval-second (part at (end - at) intervals) (omega (arith, long))

  -- of one group
  pub interval_one : end ≤ at + 1 → get_or intervals at nan ≡ pattern_interval (part at (end - at) intervals)
  interval_one t =
      let z : at ≡ at + 0 = omega arith in
      (rw (← z) at (sym (get_or-part at (end - at) intervals 0 nan (omega arith))))
      ∙ interval_only (part at (end - at) intervals) (omega (arith, long))

-- ---- the walk

-- the patterns, each by its groups' intervals
abbrev patterns : Float → List Float → List (List Float)
patterns margin intervals = parted (interval_marks margin intervals) intervals

ratio-later : (ps : List (List Float)) (p : ℕ) → (p ≡ 0 → ⊥)
    → div binary64 (pattern_interval (get_or ps p [])) (pattern_interval (get_or ps (p - 1) [])) ≡ pattern_ratio ps p
unfolding pattern_ratio
ratio-later ps zero n = absurd (n refl)
ratio-later ps (suc p) n = let b : suc p - 1 ≡ p = omega arith in rw b

-- pattern p is that of the groups from `at` to `end`
pub record Lies (margin : Float) (intervals : List Float) (p at end : ℕ) : Type 0 where
  pub from : at < end
  pub upto : end ≤ length intervals
  pub groups : get_or (patterns margin intervals) p [] ≡ part at (end - at) intervals

-- the walk stands at pattern `number`, of the groups from `at` to `end`; group g is not before it
pub record Found (margin : Float) (intervals : List Float) (g number before at end : ℕ) : Type 0 where
  pub numbering : Numbering margin intervals number at
  pub left : drop number (patterns margin intervals)
      ≡ parted (marks_from (pair_class margin) (ltb 2 (length intervals)) (drop at intervals)) (drop at intervals)
  pub here : end ≡ group_end margin intervals at
  pub reached : at ≤ g
  pub small : g < length intervals
  pub previous : (number ≡ 0 → ⊥) → Lies margin intervals (number - 1) before at

pub found-start : (margin : Float) (intervals : List Float) (g : ℕ) → g < length intervals → {end : ℕ}
    → end ≡ group_end margin intervals 0 → Found margin intervals g 0 0 0 end
found-start margin intervals g h e = record {
  numbering = numbering_start margin intervals;
  left = rw (marks_all margin intervals);
  here = e;
  reached = omega arith;
  small = h;
  previous = λ n. absurd (n refl);
}

module _ {margin : Float} {intervals : List Float} {g number before at end : ℕ} (x : Found margin intervals g number before at end) where
  inside : at < length intervals
  inside = omega (arith, x.reached, x.small)

  rest : drop number (patterns margin intervals)
      ≡ take (end - at) (drop at intervals) ∷ parted (marks_from (pair_class margin) (ltb 2 (length intervals)) (drop end intervals)) (drop end intervals)
  rest = x.left ∙ rw x.here (parted-end margin intervals intervals at inside refl)

  pub found_lies : Lies margin intervals number at end
  found_lies =
      let z : number ≡ number + 0 = omega arith in
      let k : end - at ≡ at + (end - at) - at = omega arith in
      record {
        from = rw x.here (end_after_lem margin intervals at inside);
        upto = rw x.here (end-within margin intervals at inside);
        groups =
            (rw (← z, rest, k) at (sym (get_or-drop number (patterns margin intervals) 0 []))) ∙ lent-part at (end - at) intervals;
      }

  pub found_turn : {next : ℕ} → end ≤ g → next ≡ group_end margin intervals end → Found margin intervals g (number + 1) at end next
  found_turn h e =
      let b : number ≡ number + 1 - 1 = omega arith in
      record {
        numbering = numbering_next x.numbering inside end x.here;
        left = sym (drop-drop 1 number (patterns margin intervals)) ∙ ap (drop 1) rest;
        here = e;
        reached = h;
        small = x.small;
        previous = λ _. rw b at found_lies;
      }

  number_is : g < end → pattern_number margin intervals g ≡ number
  unfolding pattern_number
  number_is h = numbering_here x.numbering inside end x.here g x.reached h

  -- the first pattern
  pub pattern_first : g < end → number ≡ 0 → ◌≡◌ {A = Pattern} (record { number = number; ratio = one64 }) (pattern_of margin intervals g)
  unfolding pattern_of pattern_ratio
  pattern_first h e = rw (number_is h, e)

  -- a later one, by its interval and that of the pattern before
  pub pattern-later : g < end → (number ≡ 0 → ⊥) → (this previous : Float) → this ≡ pattern_interval (take (end - at) (drop at intervals))
      → previous ≡ pattern_interval (take (at - before) (drop before intervals))
      → ◌≡◌ {A = Pattern} (record { number = number; ratio = div binary64 this previous }) (pattern_of margin intervals g)
  unfolding pattern_of
  pattern-later h n this previous t p =
      rw (
        number_is h,
        t,
        p,
        part_pieces at (end - at) intervals,
        part_pieces before (at - before) intervals,
        ← found_lies.groups,
        ← (x.previous n).groups,
      )
      (rw (ratio-later (patterns margin intervals) number n))
