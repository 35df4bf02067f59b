-- Where a group ends, case by case, and that the marks are those of the walk over the groups' ends: 1 and zeros for a group, and so on from its end.
use mathlib.Core.Path.{◌≡◌, refl, sym, ap, ◌∙◌}
use mathlib.Core.Bool.{Bool, true, false, cond}
use mathlib.Core.List.{List, [], ◌∷◌, ◌++◌}
use Prim.Native.Nat.{ℕ, suc, ◌+◌, ◌-◌, ◌≤◌, ◌<◌}
use native.Mathlib.Numerals.{add-one}
use native.Mathlib.Omega.{arith}
use lib.Dec.{eqb, ltb}
use lib.ListN.{length, drop, get_or, replicate, length-drop, drop_of_length-le}
use lib.Seq.{drop-cons, drop-drop}
use lib.Ieee.{Float, nan}
use borrow.Author.Tests.{lt-ltb, le-ltb, ltb-true, ltb-false}
use Rattle.numeric.specs.Near.{is_near}
use Rattle.grouping_interval.specs.IntervalGrouping.{is_rise, pair_class, last_taken, marks_after, class_marks, interval_marks}
use Rattle.grouping_interval.specs.GroupEnd.{grow, end_after, group_end}
use Rattle.grouping_interval.specs.passes.MarkPass.{marks_from}
use Rattle.grouping_interval.proofs.IntervalLaws.{near_class, rise_class}

-- ---- the cases

module _ {A : Type 0} (class : A → A → ℕ) (many : Bool) (last v w : A) (rest : List A) where
  grow-near : eqb (class v w) 0 ≡ true → grow class many last (v ∷ w ∷ rest) ≡ suc (grow class many v (w ∷ rest))
  unfolding grow
  grow-near e = rw (e, grow)

  grow_turn : (r : Bool) → eqb (class v w) 0 ≡ false → eqb (class v w) 1 ≡ r → grow class many last (v ∷ w ∷ rest) ≡ cond r 1 0
  unfolding grow
  grow_turn r e f = rw (e, f, grow)

plus : (i : ℕ) (b : Bool) → i + cond b 1 0 ≡ cond b (i + 1) i
plus i true = refl
plus i false = omega arith

module _ {A : Type 0} (v : List A) (i : ℕ) (z : A) where
  -- two values or more from i on
  pub two_left : i + 1 < length v → drop i v ≡ get_or v i z ∷ get_or v (i + 1) z ∷ drop (suc (i + 1)) v
  two_left h = let k : i < length v = omega arith in rw (drop-cons v i z k, ← add-one i, drop-cons v (i + 1) z h)

  -- the last value alone
  pub one_left : i < length v → length v ≤ i + 1 → drop i v ≡ get_or v i z ∷ []
  one_left h k = let e : length v ≤ suc i = omega arith in rw (drop-cons v i z h, drop_of_length-le v e)

module _ (margin : Float) (v : List Float) (i : ℕ) where
  -- the value is near the next one: the group goes on
  pub end-near : i + 1 < length v → eqb (pair_class margin (get_or v i nan) (get_or v (i + 1) nan)) 0 ≡ true → end_after margin v i ≡ end_after margin v (i + 1)
  unfolding end_after
  end-near h e =
      let many : Bool = ltb 2 (length v) in
      let x : Float = get_or v i nan in
      let g : grow (pair_class margin) many (get_or v (i - 1) nan) (drop i v) ≡ suc (grow (pair_class margin) many x (drop (i + 1) v)) =
      ap (grow (pair_class margin) many (get_or v (i - 1) nan)) (two_left v i nan h)
      ∙ grow-near (pair_class margin) many (get_or v (i - 1) nan) x (get_or v (i + 1) nan) (drop (suc (i + 1)) v) e
      ∙ ap (λ (l : List Float). suc (grow (pair_class margin) many x l)) (sym (drop-cons v (i + 1) nan h)) in
      let b : i + 1 - 1 ≡ i = omega arith in
      let k : grow (pair_class margin) many (get_or v (i + 1 - 1) nan) (drop (i + 1) v) ≡ grow (pair_class margin) many x (drop (i + 1) v) =
      ap (λ (n : ℕ). grow (pair_class margin) many (get_or v n nan) (drop (i + 1) v)) b in
      omega arith

  -- it is not: the group ends, with the value if the next one rises
  pub end_turn : (r : Bool) → i + 1 < length v → eqb (pair_class margin (get_or v i nan) (get_or v (i + 1) nan)) 0 ≡ false
      → eqb (pair_class margin (get_or v i nan) (get_or v (i + 1) nan)) 1 ≡ r → end_after margin v i ≡ cond r (i + 1) i
  unfolding end_after
  end_turn r h e f =
      let many : Bool = ltb 2 (length v) in
      let last : Float = get_or v (i - 1) nan in
      rw (two_left v i nan h, grow_turn (pair_class margin) many last (get_or v i nan) (get_or v (i + 1) nan) (drop (suc (i + 1)) v) r e f) (plus i r)

  -- no value is left
  pub end_none : length v ≤ i → end_after margin v i ≡ i
  unfolding end_after grow
  end_none h = rw (drop_of_length-le v h) (omega arith)

  -- the last value alone is left
  pub end_last : (b : Bool) → i < length v → length v ≤ i + 1 → last_taken (ltb 2 (length v)) (pair_class margin (get_or v (i - 1) nan) (get_or v i nan)) ≡ b
      → end_after margin v i ≡ cond b (i + 1) i
  unfolding end_after grow
  end_last b h k e = rw (one_left v i nan h k, e) (plus i b)

-- ---- the marks

-- the values that the group takes are 0, and the next one opens a group
pub marks_grow : {A : Type 0} (class : A → A → ℕ) (many : Bool) (last : A) (values : List A)
    → marks_after class many last values ≡ replicate (grow class many last values) 0 ++ marks_from class many (drop (grow class many last values) values)
unfolding marks_after marks_from grow
marks_grow class many last [] = refl
marks_grow class many last (v ∷ []) = by (last_taken many (class last v))
  where
    by : (n : Bool) → cond n 0 1 ∷ [] ≡ replicate (cond n 1 0) 0 ++ marks_from class many (drop (cond n 1 0) (v ∷ []))
    by true = refl
    by false = refl
marks_grow class many last (v ∷ w ∷ rest) = by (eqb (class v w) 0) (eqb (class v w) 1) (grow class many v (w ∷ rest)) (marks_grow class many v (w ∷ rest))
  where
    by : (n r : Bool) (g : ℕ) → marks_after class many v (w ∷ rest) ≡ replicate g 0 ++ marks_from class many (drop g (w ∷ rest))
        → cond n (0 ∷ marks_after class many v (w ∷ rest)) (cond r (0 ∷ 1 ∷ marks_after class many w rest) (1 ∷ marks_after class many v (w ∷ rest)))
        ≡ replicate (cond n (suc g) (cond r 1 0)) 0 ++ marks_from class many (drop (cond n (suc g) (cond r 1 0)) (v ∷ w ∷ rest))
    by true r g e = rw e
    by false true g e = refl
    by false false g e = refl

pub grow_le : {A : Type 0} (class : A → A → ℕ) (many : Bool) (last : A) (values : List A) → grow class many last values ≤ length values
unfolding grow
grow_le class many last [] = omega arith
grow_le class many last (v ∷ []) = by (last_taken many (class last v))
  where
    by : (n : Bool) → cond n 1 0 ≤ 1
    by true = omega arith
    by false = omega arith
grow_le class many last (v ∷ w ∷ rest) = by (eqb (class v w) 0) (eqb (class v w) 1) (grow class many v (w ∷ rest)) (grow_le class many v (w ∷ rest))
  where
    by : (n r : Bool) (g : ℕ) → g ≤ suc (length rest) → cond n (suc g) (cond r 1 0) ≤ suc (suc (length rest))
    by true r g e = omega arith
    by false true g e = omega arith
    by false false g e = omega arith

more : (n : ℕ) → ltb 1 n ≡ ltb 2 (suc n)
more n = by (ltb 1 n) refl
  where
    by : (b : Bool) → ltb 1 n ≡ b → ltb 1 n ≡ ltb 2 (suc n)
    by true e = e ∙ sym (lt-ltb 2 (suc n) (omega (arith, ltb-true 1 n e)))
    by false e = e ∙ sym (le-ltb 2 (suc n) (omega (arith, ltb-false 1 n e)))

-- all the marks: the first value opens a group
pub class_marks_all : {A : Type 0} (class : A → A → ℕ) (values : List A) → class_marks class values ≡ marks_from class (ltb 2 (length values)) values
unfolding class_marks marks_from
class_marks_all class [] = refl
class_marks_all class (v ∷ values) = rw (more (length values))

pub marks_all : (margin : Float) (values : List Float) → interval_marks margin values ≡ marks_from (pair_class margin) (ltb 2 (length values)) values
unfolding interval_marks
marks_all margin values = class_marks_all (pair_class margin) values

module _ (margin : Float) (values : List Float) (at : ℕ) where
  pub end_past : length values ≤ at → group_end margin values at ≡ at
  unfolding group_end
  end_past h = rw (le-ltb _ _ h)

  pub end-inside : at < length values → end_after margin values (at + 1) ≡ group_end margin values at
  unfolding group_end
  end-inside h = rw (lt-ltb _ _ h)

  pub grown : at < length values
      → group_end margin values at ≡ suc at + grow (pair_class margin) (ltb 2 (length values)) (get_or values at nan) (drop (suc at) values)
  unfolding end_after
  grown h =
      let b : at + 1 - 1 ≡ at = omega arith in
      rw (← end-inside h, b, add-one at)

  -- a group takes a value at least
  pub end_after_lem : at < length values → at < group_end margin values at
  end_after_lem h = omega (arith, grown h)

  -- and only values
  pub end-within : at < length values → group_end margin values at ≤ length values
  end-within h =
      omega (arith, grown h, grow_le (pair_class margin) (ltb 2 (length values)) (get_or values at nan) (drop (suc at) values), length-drop (suc at) values)

  -- the marks from a group's first value on: 1 and zeros up to the group's end, and the marks from there on, where the next value, if one is left, opens a
  -- group
  pub marks_at : at < length values → marks_from (pair_class margin) (ltb 2 (length values)) (drop at values)
      ≡ 1 ∷ replicate (group_end margin values at - at - 1) 0
      ++ marks_from (pair_class margin) (ltb 2 (length values)) (drop (group_end margin values at) values)
  unfolding marks_from
  marks_at h =
      ap (marks_from (pair_class margin) (ltb 2 (length values))) (drop-cons values at nan h)
      ∙ by (ltb 2 (length values)) (get_or values at nan) _ _ (grown h)
      (marks_grow (pair_class margin) (ltb 2 (length values)) (get_or values at nan) (drop (suc at) values))
    where
      by : (many : Bool) (x : Float) (g end : ℕ) → end ≡ suc at + g
          → marks_after (pair_class margin) many x (drop (suc at) values) ≡ replicate g 0 ++ marks_from (pair_class margin) many (drop g (drop (suc at) values))
          → 1 ∷ marks_after (pair_class margin) many x (drop (suc at) values)
          ≡ 1 ∷ replicate (end - at - 1) 0 ++ marks_from (pair_class margin) many (drop end values)
      by many x g end e m =
          let k : end - at - 1 ≡ g = omega arith in
          rw (m, drop-drop g (suc at) values, ← e, k)

-- a loop over one group: the group took the value before i, and it ends where the group that starts at `at` ends
pub record Within (margin : Float) (values : List Float) (at i : ℕ) : Type 0 where
  pub here : at < i
  pub upto : i ≤ length values
  pub same : end_after margin values i ≡ group_end margin values at

module _ {margin : Float} {values : List Float} {at : ℕ} where
  pub within_start : at < length values → Within margin values at (at + 1)
  within_start h = record { here = omega arith; upto = omega arith; same = end-inside margin values at h }

  pub within_turn : {i : ℕ} → Within margin values at i → i < length values - 1
      → is_near margin (get_or values i nan) (get_or values (i + 1) nan) ≡ true → Within margin values at (i + 1)
  within_turn {i} x h e = record {
    here = omega (arith, x.here);
    upto = omega arith;
    same = sym (end-near margin values i (omega arith) (near_class margin (get_or values i nan) (get_or values (i + 1) nan) ∙ e)) ∙ x.same;
  }

  pub within_end : {i : ℕ} → Within margin values at i → i < length values - 1 → (r : Bool)
      → is_near margin (get_or values i nan) (get_or values (i + 1) nan) ≡ false
      → is_rise margin (get_or values i nan) (get_or values (i + 1) nan) ≡ r → cond r (i + 1) i ≡ group_end margin values at
  within_end {i} x h r e f =
      let v : Float = get_or values i nan in
      let w : Float = get_or values (i + 1) nan in
      sym (end_turn margin values i r (omega arith) (near_class margin v w ∙ e) (rise_class margin v w e ∙ f)) ∙ x.same

  -- the last value has none behind it
  pub within_last : {i : ℕ} → Within margin values at i → i ≡ length values - 1 → i < length values
      → cond (last_taken (ltb 2 (length values)) (pair_class margin (get_or values (length values - 2) nan) (get_or values (length values - 1) nan)))
      (length values) (length values - 1) ≡ group_end margin values at
  within_last {i} x p k =
      let q : i - 1 ≡ length values - 2 = omega arith in
      let r : i + 1 ≡ length values = omega arith in
      rw (q, r, p) at (sym (end_last margin values i _ k (omega arith) refl) ∙ x.same)

  pub within_none : {i : ℕ} → Within margin values at i → length values ≤ i → length values ≡ group_end margin values at
  within_none {i} x h =
      let p : length values ≡ i = omega (arith, x.upto) in
      p ∙ sym (end_none margin values i h) ∙ x.same

-- what the search of `group_end` is given
pub ruleset ending = (end_past, within_start, within_turn, within_last, within_none)
