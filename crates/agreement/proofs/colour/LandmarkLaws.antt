-- The test finds exactly the landmarks: each field of a landmark is one of its tests, and a number below a bound is there exactly where the search finds one.
use mathlib.Core.Path.{◌≡◌, ap, ◌∙◌}
use mathlib.Core.List.{List, [], ◌∷◌}
use mathlib.Core.Bool.{Bool, true}
use Prim.Native.Nat.{ℕ, ◌+◌, ◌-◌, ◌≤◌, ◌<◌}
use native.Mathlib.Omega.{arith}
use lib.Dec.{eqb, leb}
use lib.ListN.{length, get_or}
use borrow.Author.Tests.{ltb-true, leb-true, eqb-true, eqb-false, lt-ltb, le-leb, eq-eqb, ne_eqb, not-true}
use Rattle.grouping_chart.specs.Object.{is_note}
use Rattle.grouping_preprocessor.specs.Preprocessor.{alternating_of}
use Rattle.agreement.specs.passes.Tests.{all_true}
use Rattle.agreement.specs.colour.Landmark.{ColourLandmark}
use Rattle.agreement.specs.passes.LandmarkTest.{levels_of, tail_note_before, object_serves, streak_serves, pattern_serves, plain, ends_at, pattern_found}
use Rattle.agreement.specs.passes.LandmarkTest.{streak_found, landmark_found, is_landmark}
use Rattle.std.proofs.lemmas.Bool.{not_from_false}
use Rattle.agreement.proofs.TestLaws.{all_first, all_rest, all_none, all_more, any_found, found_any, none_found, found_none}

module _ (kinds : List ℕ) (m position : ℕ) where
  -- the four tests of an object, a streak and a pattern
  landmark_of : (object streak pattern : ℕ) → object < length kinds → object_serves (levels_of kinds) m object ≡ true
      → streak_serves (levels_of kinds) object streak ≡ true → pattern_serves (levels_of kinds) streak pattern ≡ true
      → ends_at (levels_of kinds) (pattern + 1) position ≡ true → ColourLandmark kinds m position
  unfolding levels_of tail_note_before object_serves streak_serves pattern_serves ends_at
  landmark_of object streak pattern h a b c d =
      let y = any_found _ _ (all_first _ _ (all_rest _ _ a)) in
      let b₁ = all_rest _ _ b in
      let b₂ = all_rest _ _ b₁ in
      let c₁ = all_rest _ _ c in
      let c₂ = all_rest _ _ c₁ in
      let d₁ = all_rest _ _ d in
      let d₂ = all_rest _ _ d₁ in
      let none = found_none _ _ (not-true _ (all_first _ _ (all_rest _ _ d₂))) in
      let some : 0 < position = ltb-true _ _ (all_first _ _ d) in
      let fits : position ≤ length kinds = leb-true _ _ (all_first _ _ d₁) in
      record {
        object = object;
        object_there = h;
        object-opens = eqb-true _ _ (all_first _ _ a);
        note = y.number;
        note_is = all_first _ _ y.passes;
        note_before = y.below;
        note_of_tail = leb-true _ _ (all_first _ _ (all_rest _ _ y.passes));
        streak = streak;
        streak_after = leb-true _ _ (all_first _ _ b);
        streak_next = ltb-true _ _ (all_first _ _ b₁);
        streak_unequal = eqb-false _ _ (not-true _ (all_first _ _ b₂));
        streak-opens = eqb-true _ _ (all_first _ _ (all_rest _ _ b₂));
        pattern = pattern;
        pattern_from = leb-true _ _ (all_first _ _ c);
        pattern_next = ltb-true _ _ (all_first _ _ c₁);
        pattern_uncoupled = eqb-true _ _ (all_first _ _ c₂);
        next_uncoupled = eqb-true _ _ (all_first _ _ (all_rest _ _ c₂));
        last = position - 1;
        last_there = omega arith;
        last_of_second = eqb-true _ _ (all_first _ _ d₂);
        last_is_last = λ i l k e. none i k (all_more _ _ (le-leb position i (omega arith)) (all_more _ _ (eq-eqb _ _ e) all_none));
        just_after = omega arith;
      }

  pub test_landmark : is_landmark plain kinds m position ≡ true → ColourLandmark kinds m position
  unfolding is_landmark landmark_found streak_found pattern_found levels_of
  test_landmark e =
      let x = any_found _ _ e in
      let z = any_found _ _ (all_first _ _ (all_rest _ _ x.passes)) in
      let w = any_found _ _ (all_first _ _ (all_rest _ _ z.passes)) in
      landmark_of x.number z.number w.number x.below (all_first _ _ x.passes) (all_first _ _ z.passes) (all_first _ _ w.passes)
      (all_first _ _ (all_rest _ _ w.passes))

  module _ (x : ColourLandmark kinds m position) where
    object_test : object_serves (levels_of kinds) m x.object ≡ true
    unfolding levels_of tail_note_before object_serves
    object_test =
        all_more _ _ (eq-eqb _ _ x.object-opens)
        (all_more _ _ (found_any x.object (λ (i : ℕ). all_true (is_note (get_or kinds i 0) ∷ leb (length kinds) (i + m) ∷ [])) x.note x.note_before
        (all_more _ _ x.note_is (all_more _ _ (le-leb _ _ x.note_of_tail) all_none))) all_none)

    streak_test : streak_serves (levels_of kinds) x.object x.streak ≡ true
    unfolding levels_of streak_serves
    streak_test =
        all_more _ _ (le-leb _ _ x.streak_after)
        (all_more _ _ (lt-ltb _ _ x.streak_next)
        (all_more _ _ (not_from_false _ (ne_eqb _ _ x.streak_unequal)) (all_more _ _ (eq-eqb _ _ x.streak-opens) all_none)))

    pattern_test : pattern_serves (levels_of kinds) x.streak x.pattern ≡ true
    unfolding levels_of pattern_serves
    pattern_test =
        all_more _ _ (le-leb _ _ x.pattern_from)
        (all_more _ _ (lt-ltb _ _ x.pattern_next)
        (all_more _ _ (eq-eqb _ _ x.pattern_uncoupled) (all_more _ _ (eq-eqb _ _ x.next_uncoupled) all_none)))

    end_test : ends_at (levels_of kinds) (x.pattern + 1) position ≡ true
    unfolding levels_of ends_at
    end_test =
        all_more _ _ (lt-ltb 0 position (omega (arith, x.just_after)))
        (all_more _ _ (le-leb position (length kinds) (omega (arith, x.just_after, x.last_there)))
        (all_more _ _ (eq-eqb _ _ (ap (λ (i : ℕ). get_or (alternating_of kinds) i 0) before ∙ x.last_of_second))
        (all_more _ _ (not_from_false _ (none_found (length kinds) later none)) all_none)))
      where
        before : position - 1 ≡ x.last
        before = omega (arith, x.just_after)

        -- object i stands behind the position and is of the pattern
        later : ℕ → Bool
        later i = all_true (leb position i ∷ eqb (get_or (alternating_of kinds) i 0) (x.pattern + 1) ∷ [])

        none : (i : ℕ) → i < length kinds → later i ≡ true → ⊥
        none i h e =
            let l : position ≤ i = leb-true _ _ (all_first _ _ e) in
            x.last_is_last i (omega (arith, x.just_after)) h (eqb-true _ _ (all_first _ _ (all_rest _ _ e)))

    pattern-found : pattern_found plain (levels_of kinds) position x.streak ≡ true
    unfolding pattern_found levels_of
    pattern-found = found_any _ _ x.pattern (omega (arith, x.pattern_next)) (all_more _ _ pattern_test (all_more _ _ end_test all_none))

    streak-found : streak_found plain (levels_of kinds) position x.object ≡ true
    unfolding streak_found levels_of
    streak-found = found_any _ _ x.streak (omega (arith, x.streak_next)) (all_more _ _ streak_test (all_more _ _ pattern-found all_none))

    pub landmark_test : is_landmark plain kinds m position ≡ true
    unfolding is_landmark landmark_found levels_of
    landmark_test = found_any _ _ x.object x.object_there (all_more _ _ object_test (all_more _ _ streak-found all_none))
