-- The marks of a grouping by intervals: a mark for each value, 1 for the first, and what the marks of the values behind one are, case by case.
use mathlib.Core.Path.{◌≡◌, refl, ap}
use mathlib.Core.Bool.{Bool, true, false, cond}
use mathlib.Core.List.{List, [], ◌∷◌}
use Prim.Native.Nat.{ℕ, suc, ◌<◌}
use native.Mathlib.Nat.{not-suc-le-zero}
use lib.Dec.{eqb, ltb}
use lib.ListN.{length, get_or}
use lib.Ieee.{Float}
use Rattle.numeric.specs.Near.{is_near}
use Rattle.grouping_interval.specs.IntervalGrouping.{is_rise, pair_class, last_taken, marks_after, class_marks, interval_marks}
use Rattle.grouping_interval.specs.passes.MarkPass.{marks_from}

-- ---- the class of two times

module _ (margin v w : Float) where
  pub near_class : eqb (pair_class margin v w) 0 ≡ is_near margin v w
  unfolding pair_class
  near_class = by (is_near margin v w) (is_rise margin v w)
    where
      by : (n r : Bool) → eqb (cond n 0 (cond r 1 2)) 0 ≡ n
      by true r = refl
      by false true = refl
      by false false = refl

  pub rise_class : is_near margin v w ≡ false → eqb (pair_class margin v w) 1 ≡ is_rise margin v w
  unfolding pair_class
  rise_class e = rw e (by (is_rise margin v w))
    where
      by : (r : Bool) → eqb (cond r 1 2) 1 ≡ r
      by true = refl
      by false = refl

-- ---- the cases

module _ (margin : Float) (many : Bool) (last v w : Float) (rest : List Float) where
  -- the value is near the next one: the group takes it
  pub marks_near : is_near margin v w ≡ true
      → marks_after (pair_class margin) many last (v ∷ w ∷ rest) ≡ 0 ∷ marks_after (pair_class margin) many v (w ∷ rest)
  unfolding marks_after
  marks_near e = rw (near_class margin v w, e, marks_after)

  -- the next one rises: the group takes the value too and ends, and the next one opens a group
  pub marks_rise : is_near margin v w ≡ false → is_rise margin v w ≡ true
      → marks_after (pair_class margin) many last (v ∷ w ∷ rest) ≡ 0 ∷ 1 ∷ marks_after (pair_class margin) many w rest
  unfolding marks_after
  marks_rise e r = rw (near_class margin v w, rise_class margin v w e, e, r, marks_after)

  -- neither: the value opens a group
  pub marks_neither : is_near margin v w ≡ false → is_rise margin v w ≡ false
      → marks_after (pair_class margin) many last (v ∷ w ∷ rest) ≡ 1 ∷ marks_after (pair_class margin) many v (w ∷ rest)
  unfolding marks_after
  marks_neither e r = rw (near_class margin v w, rise_class margin v w e, e, r, marks_after)

module _ {A : Type 0} (class : A → A → ℕ) (many : Bool) where
  -- the last value
  pub marks_one : (last v : A) → marks_after class many last (v ∷ []) ≡ cond (last_taken many (class last v)) 0 1 ∷ []
  unfolding marks_after
  marks_one last v = refl

  pub marks_none : (last : A) → marks_after class many last [] ≡ []
  unfolding marks_after
  marks_none last = refl

  -- the first of all opens a group
  pub marks_first : (v : A) (rest : List A) → marks_from class many (v ∷ rest) ≡ 1 ∷ marks_after class many v rest
  unfolding marks_from
  marks_first v rest = refl

-- with more than two values, nearness to the one before decides on the last
pub marks_last : (margin last v : Float) → marks_after (pair_class margin) true last (v ∷ []) ≡ cond (is_near margin last v) 0 1 ∷ []
marks_last margin last v = rw (← near_class margin last v) (marks_one (pair_class margin) true last v)

-- the last of two opens a group
pub marks_few : (margin last v : Float) → marks_after (pair_class margin) false last (v ∷ []) ≡ 1 ∷ []
marks_few margin last v = marks_one (pair_class margin) false last v

-- ---- the lengths

length_after : {A : Type 0} (class : A → A → ℕ) (many : Bool) (last : A) (values : List A) → length (marks_after class many last values) ≡ length values
unfolding marks_after
length_after class many last [] = refl
length_after class many last (v ∷ []) = refl
length_after class many last (v ∷ w ∷ rest) =
    by (eqb (class v w) 0) (eqb (class v w) 1) (length_after class many v (w ∷ rest)) (length_after class many w rest)
  where
    by : (n r : Bool) → length (marks_after class many v (w ∷ rest)) ≡ suc (length rest) → length (marks_after class many w rest) ≡ length rest
        → length
        (cond n (0 ∷ marks_after class many v (w ∷ rest)) (cond r (0 ∷ 1 ∷ marks_after class many w rest) (1 ∷ marks_after class many v (w ∷ rest))))
        ≡ suc (suc (length rest))
    by true r e f = ap suc e
    by false true e f = rw f
    by false false e f = ap suc e

-- a mark for each value
pub length_class_marks : {A : Type 0} (class : A → A → ℕ) (values : List A) → length (class_marks class values) ≡ length values
unfolding class_marks
length_class_marks class [] = refl
length_class_marks class (v ∷ values) = ap suc (length_after class (ltb 1 (length values)) v values)

-- the marks of times are those by their classes
pub marks_by_class : (margin : Float) (values : List Float) → interval_marks margin values ≡ class_marks (pair_class margin) values
unfolding interval_marks
marks_by_class margin values = refl

pub length_marks : (margin : Float) (values : List Float) → length (interval_marks margin values) ≡ length values
unfolding interval_marks
length_marks margin values = length_class_marks (pair_class margin) values

-- the first value opens a group
pub first_opens : (margin : Float) (values : List Float) → 0 < length values → get_or (interval_marks margin values) 0 0 ≡ 1
unfolding interval_marks class_marks
first_opens margin [] h = absurd (not-suc-le-zero h)
first_opens margin (v ∷ values) h = refl
