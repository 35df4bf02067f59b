-- The class that two ranges surely have is the one that every choice of two deltas inside them has. Each test of the ends holds exactly where that of the
-- deltas holds of every choice: two ends are a choice themselves, and near and a rise pass from some ends to what lies between them or beyond.
use mathlib.Core.Path.{◌≡◌, refl, sym, ◌∙◌}
use mathlib.Core.Logic.{◌⊎◌, inl, inr}
use mathlib.Core.Bool.{Bool, true, false, not, ◌&&◌, ◌||◌, cond}
use Prim.Native.Nat.{ℕ, zero, suc, ◌^◌, ◌<◌}
use native.Mathlib.Omega.{arith}
use lib.Dec.{T, T_not, not_T, lit≤}
use lib.Ieee.{Float, binary64, fits, le, lt, add}
use lib.Ieee.Fits.{and_l, and_r, and_i, add-fits}
use mir.Facts.{or_yes}
use Rattle.numeric.specs.Constants.{zero64}
use Rattle.numeric.specs.Range.{earliest, latest}
use Rattle.numeric.specs.Near.{is_near}
use Rattle.numeric.proofs.Tests.{or_l, or_r}
use Rattle.numeric.proofs.Values.{Number, finite-between}
use Rattle.numeric.proofs.Bounded.{Bounded, le_bounded, add_bounded, bounded_number}
use Rattle.numeric.proofs.Monotone.{add_mono}
use Rattle.numeric.proofs.Ordered.{le_or_lt, lt_le, le_self, le_trans, le_lt_trans, lt_le_trans, add_grows}
use Rattle.numeric.proofs.near.Laws.{near_turned, near-between, near_above, near_self}
use Rattle.numeric.proofs.range.Laws.{within_ends}
use Rattle.grouping_chart.specs.Settings.{Settings, Permitted}
use Rattle.grouping_chart.proofs.SettingsLaws.{in_ranges}
use Rattle.grouping_chart.proofs.RangeLaws.{time_range}
use Rattle.grouping_interval.specs.IntervalGrouping.{is_rise, pair_class}
use Rattle.grouping_interval.proofs.ClassLaws.{one_of, class_holds, class_told, class_telling, rise_is}
use Rattle.grouping_ranges.specs.declared.Range.{Range}
use Rattle.grouping_ranges.specs.SureClass.{far_apart, sure_class}
use Rattle.grouping_ranges.specs.Choices.{GoodRange, Inside, All, Sure}

-- ---- the first of three tests that holds, if one does

abbrev first : Bool → Bool → Bool → ℕ
first a b c = cond a 0 (cond b 1 (cond c 2 3))

-- by the two bits of its number
pub first_of_bits : (a b c : Bool) → cond (not a && not b) (cond (not a && (b || not c)) 3 2) (cond (not a && (b || not c)) 1 0) ≡ first a b c
first_of_bits true b c = refl
first_of_bits false true c = refl
first_of_bits false false true = refl
first_of_bits false false false = refl

first_holds : (a b c : Bool) (k : ℕ) → k < 3 → first a b c ≡ k → T (one_of a b c k)
first_holds true b c k h e = rw (← e) tt
first_holds false true c k h e = rw (← e) tt
first_holds false false true k h e = rw (← e) tt
first_holds false false false k h e = absurd (omega arith)

first_found : (a b c : Bool) (k : ℕ) → T (one_of a b c k) → first a b c < 3
first_found true b c k t = lit≤ tt
first_found false true c k t = lit≤ tt
first_found false false true k t = lit≤ tt
first_found false false false zero t = absurd t
first_found false false false (suc zero) t = absurd t
first_found false false false (suc (suc k)) t = absurd t

first_or_none : (a b c : Bool) → (first a b c < 3) ⊎ (first a b c ≡ 3)
first_or_none true b c = inl (lit≤ tt)
first_or_none false true c = inl (lit≤ tt)
first_or_none false false true = inl (lit≤ tt)
first_or_none false false false = inr refl

told_or_open : (margin : Float) (a b : Range) → (sure_class margin a b < 3) ⊎ (sure_class margin a b ≡ 3)
unfolding sure_class
told_or_open margin a b = first_or_none _ _ _

-- ---- the sizes: deltas, and the margin too, are numbers up to 2^24

record Delta (x : Float) : Type 0 where
  number : Number x
  size : Bounded x (2 ^ 24)

delta : (x : Float) → T (fits binary64 x) → T (le earliest x) → T (le x latest) → Delta x
delta x f h k = let b = le_bounded x 24 h k in record { number = bounded_number x (2 ^ 24) f b; size = b }

-- what lies between two such
module _ {lo x hi : Float} (f : T (fits binary64 x)) (h : T (le lo x)) (k : T (le x hi)) (p : Number lo) (q : Number hi) where
  between : T (le earliest lo) → T (le hi latest) → Delta x
  unfolding fits
  between e l =
      let n : Number x = record { is_finite = finite-between lo x hi p.is_finite q.is_finite h k; is_held = f } in
      delta x f (le_trans (record { is_finite = tt; is_held = tt }) p n e h) (le_trans n q (record { is_finite = tt; is_held = tt }) k l)

module _ {r : Range} (g : GoodRange r) where
  low : Number r.low
  low = let t = time_range r.low g.low in (delta r.low g.held_low t.0 t.1).number

  high : Number r.high
  high = let t = time_range r.high g.high in (delta r.high g.held_high t.0 t.1).number

  pub low_in : Inside r r.low
  low_in = record { held = g.held_low; from = le_self low; upto = g.in_order }

  high_in : Inside r r.high
  high_in = record { held = g.held_high; from = g.in_order; upto = le_self high }

  inside : {x : Float} → Inside r x → Delta x
  inside i = between i.held i.from i.upto low high (time_range r.low g.low).0 (time_range r.high g.high).1

module _ {margin : Float} (m : Delta margin) (positive : T (le zero64 margin)) where
  -- ---- near and a rise, passed on
  sum : {x : Float} → Delta x → Number (add binary64 x margin)
  sum {x} d = bounded_number _ (2 ^ 25) (add-fits binary64 x margin) (add_bounded x margin (2 ^ 24) (2 ^ 24) (lit≤ tt) d.size m.size)

  -- a rise is one from a lower value on too, and to a higher one
  rise_kept : {v v' w w' : Float} → Delta v → Delta v' → Delta w → Delta w' → T (le v' v) → T (le w w') → T (is_rise margin v w) → T (is_rise margin v' w')
  rise_kept {v} {v'} {w} {w'} c c' d d' h k t =
      rw (rise_is margin v' w')
      (lt_le_trans (sum c') d.number d'.number
      (le_lt_trans (sum c') (sum c) d.number (add_mono c'.number c.number m.number h) (rw (rise_is margin v w) at t)) k)

  rise_up : {v w : Float} → Delta v → Delta w → T (is_rise margin v w) → T (le v w)
  rise_up {v} {w} c d t =
      lt_le c.number d.number (le_lt_trans c.number (sum c) d.number (add_grows c.number m.number positive) (rw (rise_is margin v w) at t))

  flip : (v w : Float) → T (is_near margin v w) → T (is_near margin w v)
  flip v w n = rw (near_turned margin v w) at n

  -- of four in order the inner two are near if the outer two are
  inner : {w x y z : Float} → Delta w → Delta x → Delta y → Delta z → T (le w x) → T (le x y) → T (le y z) → T (is_near margin z w) → T (is_near margin y x)
  inner p q r s a b c n =
      near_above margin p.number q.number r.number a b
      (near-between margin p.number r.number s.number (le_trans p.number q.number r.number a b) c n)

  module _ {a b : Range} (A : GoodRange a) (B : GoodRange b) where
    -- ---- what the ends say of every choice
    al : Delta a.low
    al = inside A (low_in A)

    ah : Delta a.high
    ah = inside A (high_in A)

    bl : Delta b.low
    bl = inside B (low_in B)

    bh : Delta b.high
    bh = inside B (high_in B)

    module _ {x y : Float} (i : Inside a x) (j : Inside b y) where
      all_near : T (is_near margin a.high b.low) → T (is_near margin a.low b.high) → T (is_near margin x y)
      all_near n o =
          let p = inside A i in
          let q = inside B j in
          elim (le_or_lt p.number q.number) [
            | inl l ↦ flip _ _ (inner al p q bh i.from l j.upto (flip _ _ o))
            | inr l ↦ inner bl q p ah j.from (lt_le q.number p.number l) i.upto n
          ]

      -- where one range lies below the other, and any choice is near, the ends that face each other are
      near_up : T (le a.high b.low) → T (is_near margin x y) → T (is_near margin a.high b.low)
      near_up l n = flip _ _ (inner (inside A i) ah bl (inside B j) i.upto l j.from (flip _ _ n))

      near_down : T (le b.high a.low) → T (is_near margin x y) → T (is_near margin a.low b.high)
      near_down l n = inner (inside B j) bh al (inside A i) j.upto l i.from n

      far : T (far_apart margin a b) → T (is_near margin x y) → ⊥
      far t n = elim (or_yes (lt b.high a.low && not (is_near margin a.low b.high)) (lt a.high b.low && not (is_near margin a.high b.low)) t) [
        | inl u ↦ T_not _ (and_r _ _ u) (near_down (lt_le bh.number al.number (and_l _ _ u)) n)
        | inr u ↦ T_not _ (and_r _ _ u) (near_up (lt_le ah.number bl.number (and_l _ _ u)) n)
      ]

    -- ---- the tests of the ends
    abbrev surely : ℕ → Bool
    surely class =
        one_of (is_near margin a.high b.low && is_near margin a.low b.high) (not (is_near margin a.high b.low) && is_rise margin a.high b.low)
        (far_apart margin a b && not (is_rise margin a.low b.high)) class

    surely_all : (class : ℕ) → class < 3 → T (surely class) → All margin a b class
    surely_all class h t x y i j = class_telling margin x y class h (by class t)
      where
        by : (class : ℕ) → T (surely class) → T (class_holds margin x y class)
        by zero t = all_near i j (and_l _ _ t) (and_r _ _ t)
        by (suc zero) t =
            let r : T (is_rise margin a.high b.low) = and_r _ _ t in
            and_i _ _ (not_T _ (λ n. T_not _ (and_l _ _ t) (near_up i j (rise_up ah bl r) n)))
            (rise_kept ah (inside A i) bl (inside B j) i.upto j.from r)
        by (suc (suc k)) t =
            and_i _ _ (not_T _ (far i j (and_l _ _ t)))
            (not_T _ (λ r. T_not _ (and_r _ _ t) (rise_kept (inside A i) al (inside B j) bh i.from j.upto r)))

    -- ---- and what every choice says of the ends

    -- ranges of which no choice is near lie apart: those that meet have a value in common, which is near itself
    none_near : ((x y : Float) → Inside a x → Inside b y → T (is_near margin x y) → ⊥) → T (far_apart margin a b)
    none_near f = elim (le_or_lt al.number bh.number) [
      | inr l ↦ or_l _ _ (and_i _ _ l (not_T _ (f a.low b.high (low_in A) (high_in B))))
      | inl h ↦ elim (le_or_lt bl.number ah.number) [
        | inr l ↦ or_r _ _ (and_i _ _ l (not_T _ (f a.high b.low (high_in A) (low_in B))))
        | inl k ↦ absurd (elim (le_or_lt al.number bl.number) [
          | inl l ↦ common (record { held = B.held_low; from = l; upto = k }) (low_in B)
          | inr l ↦ common (low_in A) (record { held = A.held_low; from = lt_le bl.number al.number l; upto = h })
        ])
      ]
    ]
      where
        common : {v : Float} → Inside a v → Inside b v → ⊥
        common {v} i j = f v v i j (rw (near_self margin (inside A i).number positive) tt)

    all_surely : (class : ℕ) → All margin a b class → T (surely class)
    all_surely class f = by class (λ x y i j. class_told margin x y class (f x y i j))
      where
        by : (class : ℕ) → ((x y : Float) → Inside a x → Inside b y → T (class_holds margin x y class)) → T (surely class)
        by zero f = and_i _ _ (f a.high b.low (high_in A) (low_in B)) (f a.low b.high (low_in A) (high_in B))
        by (suc zero) f = f a.high b.low (high_in A) (low_in B)
        by (suc (suc k)) f =
            and_i _ _ (none_near (λ x y i j n. T_not _ (and_l _ _ (f x y i j)) n))
            (and_r _ _ (f a.low b.high (low_in A) (high_in B)))

    -- ---- so the class is the sure one
    told : (class : ℕ) → class < 3 → sure_class margin a b ≡ class → All margin a b class
    unfolding sure_class
    told class h e = surely_all class h (first_holds _ _ _ class h e)

    found : (class : ℕ) → All margin a b class → sure_class margin a b < 3
    unfolding sure_class
    found class f = first_found _ _ _ class (all_surely class f)

    sure : Sure margin a b
    sure = record {
      told = told;
      telling = λ class h f. sym (told _ (found class f) refl a.low b.low (low_in A) (low_in B)) ∙ f a.low b.low (low_in A) (low_in B);
      left_open = λ e class h f. omega (arith, found class f);
      opening = λ f. elim (told_or_open margin a b) [ inl h ↦ absurd (f _ h (told _ h refl)) | inr e ↦ e ];
    }

-- under each margin that a call may be given
pub sure_classes : (s : Settings) → Permitted s → T (fits binary64 s.margin) → (a b : Range) → GoodRange a → GoodRange b → Sure s.margin a b
unfolding fits le
sure_classes s p f a b A B =
    let t = within_ends zero64 _ s.margin (in_ranges p).margin in
    let m : Delta s.margin = between {lo = zero64} f t.0 t.1 (record { is_finite = tt; is_held = tt }) (record { is_finite = tt; is_held = tt }) tt tt in
    sure m t.0 A B

-- as marks_agree of grouping_interval asks it: it is open, or any choice has it
pub open_or_had : (margin : Float) (a b : Range) → Sure margin a b → (x y : Float) → Inside a x → Inside b y
    → (sure_class margin a b ≡ 3) ⊎ (pair_class margin x y ≡ sure_class margin a b)
open_or_had margin a b s x y i j = elim (told_or_open margin a b) [ inl h ↦ inr (s.told _ h refl x y i j) | inr e ↦ inl e ]

-- ---- where the ends are equal the class is that of the two values

-- one value for both ends
abbrev pub only : Float → Range
only x = record { low = x; high = x }

module _ (margin : Float) {x y : Float} (A : GoodRange (only x)) (B : GoodRange (only y)) (positive : T (le zero64 margin)) where
  -- two values of which neither is less are near
  level_near : T (le x y) → T (le y x) → T (is_near margin x y)
  level_near h k =
      rw (near_turned margin x y)
      (near-between margin (low A) (low B) (low A) h k (rw (near_self margin (low A) positive) tt))

  apart_or_near : T (lt y x) ⊎ (T (lt x y) ⊎ T (is_near margin x y))
  apart_or_near = elim (le_or_lt (low A) (low B)) [
    | inr l ↦ inl l
    | inl h ↦ elim (le_or_lt (low B) (low A)) [
      | inr l ↦ inr (inl l)
      | inl k ↦ inr (inr (level_near h k))
    ]
  ]

  pub equal_ends_sure : sure_class margin (only x) (only y) ≡ 3 → ⊥
  unfolding sure_class
  equal_ends_sure e = by (is_near margin x y) (is_rise margin x y) (lt y x) (lt x y) apart_or_near e
    where
      by : (n r d u : Bool) → T d ⊎ (T u ⊎ T n) → first (n && n) (not n && r) (((d && not n) || (u && not n)) && not r) ≡ 3 → ⊥
      by true r d u s f = absurd (omega (arith, f))
      by false true d u s f = absurd (omega (arith, f))
      by false false true u s f = absurd (omega (arith, f))
      by false false false true s f = absurd (omega (arith, f))
      by false false false false (inl t) f = t
      by false false false false (inr (inl t)) f = t
      by false false false false (inr (inr t)) f = t
