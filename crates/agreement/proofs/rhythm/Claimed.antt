-- The rhythm half, proved for every margin: for two lists of notes' deltas and for two charts. The idea: from the note before a landmark on counterparts have
-- group numbers that differ by a constant.
use mathlib.Core.Path.{◌≡◌, refl, sym, ◌∙◌, subst, subst₂}
use mathlib.Core.Bool.{Bool, true, false}
use mathlib.Core.Logic.{◌⊎◌, inl, inr}
use mathlib.Core.List.{List, ◌∷◌}
use Prim.Native.Nat.{ℕ, suc, ◌+◌, ◌-◌, ◌≤◌, ◌<◌}
use native.Mathlib.Numerals.{add-one}
use native.Mathlib.Omega.{arith}
use lib.ListN.{length, drop, get_or}
use lib.Seq.{drop-cons, get_or-drop}
use lib.Ieee.{Float, nan}
use Rattle.grouping_marks.proofs.NumberLaws.{number_opens, numbers_rise, numbers_shift}
use Rattle.grouping_chart.specs.Chart.{Chart, size}
use Rattle.grouping_chart.specs.Settings.{Settings}
use Rattle.grouping_interval.specs.IntervalGrouping.{pair_class, is_rise, marks_after, interval_marks}
use Rattle.grouping_interval.proofs.IntervalLaws.{marks_rise, marks_neither, length_marks}
use Rattle.agreement.specs.CommonTail.{Counterparts, SameLast}
use Rattle.agreement.specs.SameGroups.{group_at, OpensAt, SameGroups}
use Rattle.agreement.specs.rhythm.Landmark.{RhythmLandmark}
use Rattle.agreement.specs.rhythm.Claim.{note_count, interval_groups, rhythm_groups, LandmarkNote}
use Rattle.agreement.proofs.GroupLaws.{ReachesBack, same_groups}
use Rattle.agreement.proofs.rhythm.NoteLaws.{same_count, notes-alike}
use Rattle.agreement.proofs.rhythm.MarksAgree.{landmark_marks, either_list, marks_agree}

-- the number of note p's group
abbrev number_at : Float → List Float → ℕ → ℕ
number_at margin deltas p = group_at (interval_groups margin deltas) p

-- group numbers never fall
pub group_rise : (margin : Float) (deltas : List Float) (p q : ℕ) → p ≤ q → q < length deltas → number_at margin deltas p ≤ number_at margin deltas q
group_rise margin deltas p q l h = numbers_rise (interval_marks margin deltas) p q l (omega (arith, length_marks margin deltas))

-- from notes a and b on, counterparts have group numbers that differ by a constant
record Shifted (margin : Float) (xs : List Float) (a : ℕ) (ys : List Float) (b : ℕ) : Type 0 where
  start : Counterparts (length xs) (length ys) a b
  shift : (p q : ℕ) → a ≤ p → p < length xs → Counterparts (length xs) (length ys) p q
      → number_at margin xs p + number_at margin ys b ≡ number_at margin ys q + number_at margin xs a

module _ {margin : Float} {xs : List Float} {a : ℕ} {ys : List Float} {b : ℕ} (s : Shifted margin xs a ys b) where
  shifted_sym : Shifted margin ys b xs a
  shifted_sym = record { start = sym s.start; shift = λ p q l h c. sym (s.shift q p (omega (arith, s.start)) (omega arith) (sym c)) }

  -- a group that reaches back over the note behind a holds note a, and so its counterpart's group holds note b
  reach_over : (i i' : ℕ) → a < i → i < length xs → Counterparts (length xs) (length ys) i i'
      → ReachesBack (interval_groups margin xs) (a + 1) i → ReachesBack (interval_groups margin ys) (b + 1) i'
  reach_over i i' l h c x =
      let held : number_at margin xs a ≡ number_at margin xs i =
      omega (arith, x.1.1, group_rise margin xs x.0 a (omega (arith, x.1.0)) (omega arith), group_rise margin xs a i (omega arith) h) in
      (b, (omega arith, omega (arith, s.shift i i' (omega arith) h c)))

same_behind_shift : {margin : Float} {xs ys : List Float} {a b : ℕ} → Shifted margin xs a ys b
    → SameGroups (interval_groups margin xs) (a + 1) (interval_groups margin ys) (b + 1)
same_behind_shift {margin} {xs} {ys} {a} {b} s = same_groups (record {
  start = omega (arith, s.start);
  from = number_at margin xs a;
  from' = number_at margin ys b;
  shift = λ i i' l h c. s.shift i i' (omega arith) h c;
  reach = λ i i' l h c. reach_over s i i' (omega arith) h c;
  reach' = λ i i' l h c. reach_over (shifted_sym s) i' i (omega (arith, s.start)) (omega arith) (sym c);
})

-- ---- two lists of deltas whose last t are alike, with a landmark there, read in either

module _ (margin : Float) {t : ℕ} {xs ys : List Float} (s : SameLast t xs ys) (i i' : ℕ) (c : Counterparts (length xs) (length ys) i i')
    (m : RhythmLandmark margin xs t i ⊎ RhythmLandmark margin ys t i') where
  landmark : RhythmLandmark margin xs t i
  landmark = either_list s margin i i' c m

  one : i - 1 + 1 ≡ i
  one = omega (arith, landmark.before_there)

  one' : i' - 1 + 1 ≡ i'
  one' = omega (arith, landmark.before_there, landmark.of_tail, s.inside')

  marks : drop (suc (i - 1)) (interval_marks margin xs) ≡ drop (suc (i' - 1)) (interval_marks margin ys)
  marks =
      let e : suc (i - 1) ≡ i = omega (arith, one) in
      let f : suc (i' - 1) ≡ i' = omega (arith, one') in
      rw (e, f) (marks_agree s margin i i' c landmark)

  -- the numbers differ by a constant from the note before the landmark on
  shifted : Shifted margin xs (i - 1) ys (i' - 1)
  shifted = record {
    start = omega (arith, one, one');
    shift = λ p q l h d.
        let j : ℕ = p - (i - 1) in
        let e : i - 1 + j ≡ p = omega arith in
        let f : i' - 1 + j ≡ q = omega (arith, one, one') in
        subst₂ (λ (p q : ℕ). number_at margin xs p + number_at margin ys (i' - 1) ≡ number_at margin ys q + number_at margin xs (i - 1)) e f
        (numbers_shift (interval_marks margin xs) (interval_marks margin ys) (i - 1) (i' - 1) marks j (omega (arith, length_marks margin xs)));
  }

  pub rhythm_claim : SameGroups (interval_groups margin xs) i (interval_groups margin ys) i'
  rhythm_claim = rw (← one, ← one') (same_behind_shift shifted)

-- ---- the claim is not empty: a group opens at the landmark or at the next note

opens_by_mark : (margin : Float) (deltas : List Float) (p : ℕ) → suc p < length deltas → get_or (interval_marks margin deltas) (suc p) 0 ≡ 1
    → OpensAt (interval_groups margin deltas) (suc p)
opens_by_mark margin deltas p l e = record {
  there = l;
  first = λ n h g.
      omega (
        arith,
        number_opens (interval_marks margin deltas) p (omega (arith, length_marks margin deltas)) e,
        group_rise margin deltas n p (omega arith) (omega arith),
      );
}

module _ (margin : Float) (deltas : List Float) (t i : ℕ) (m : RhythmLandmark margin deltas t i) where
  abbrev v : Float
  v = get_or deltas i nan

  abbrev w : Float
  w = get_or deltas (i + 1) nan

  abbrev rest : List Float
  rest = drop (suc (i + 1)) deltas

  behind : drop i deltas ≡ v ∷ w ∷ rest
  behind =
      let l : i < length deltas = omega (arith, m.next_there) in
      rw (drop-cons deltas i nan l, ← add-one i, drop-cons deltas (i + 1) nan m.next_there)

  marks_there : drop i (interval_marks margin deltas) ≡ marks_after (pair_class margin) true (get_or deltas (i - 1) nan) (v ∷ w ∷ rest)
  marks_there = rw (← behind) (landmark_marks margin deltas t i m)

  mark_at : (k n : ℕ) (ms : List ℕ) → i + k ≡ n → drop i (interval_marks margin deltas) ≡ ms → get_or (interval_marks margin deltas) n 0 ≡ get_or ms k 0
  mark_at k n ms f e = rw (← f, ← get_or-drop i (interval_marks margin deltas) k 0, e)

  pub landmark_opens : OpensAt (interval_groups margin deltas) i ⊎ OpensAt (interval_groups margin deltas) (i + 1)
  landmark_opens = by (is_rise margin v w) refl
    where
      by : (b : Bool) → is_rise margin v w ≡ b → OpensAt (interval_groups margin deltas) i ⊎ OpensAt (interval_groups margin deltas) (i + 1)
      by true r =
          let e = marks_there ∙ marks_rise margin true (get_or deltas (i - 1) nan) v w rest m.not_near r in
          inr (rw (add-one i) (opens_by_mark margin deltas i (omega (arith, m.next_there)) (mark_at 1 (suc i) _ (omega arith) e)))
      by false r =
          let e = marks_there ∙ marks_neither margin true (get_or deltas (i - 1) nan) v w rest m.not_near r in
          let one : suc (i - 1) ≡ i = omega (arith, m.before_there) in
          inl (subst (OpensAt (interval_groups margin deltas)) one
          (opens_by_mark margin deltas (i - 1) (omega (arith, m.before_there, m.next_there)) (mark_at 0 (suc (i - 1)) _ (omega (arith, one)) e)))

-- ---- two charts

pub chart_claim : (s : Settings) (c c' : Chart) {m : ℕ} → length c.deltas ≡ size c → length c'.deltas ≡ size c'
    → SameLast m c.kinds c'.kinds → SameLast m c.deltas c'.deltas → (i i' : ℕ) → Counterparts (note_count c) (note_count c') i i'
    → LandmarkNote s c m i ⊎ LandmarkNote s c' m i' → SameGroups (rhythm_groups s c) i (rhythm_groups s c') i'
chart_claim s c c' whole whole' k d i i' far x =
    rhythm_claim s.margin (notes-alike c c' whole whole' k d) i i' far (rw (← same_count c c' whole whole' k d) at x)
