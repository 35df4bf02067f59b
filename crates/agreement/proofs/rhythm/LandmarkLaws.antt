-- The test finds exactly the rhythm landmarks: each field of a landmark is one of its tests.
use mathlib.Core.Path.{◌≡◌}
use mathlib.Core.List.{List}
use mathlib.Core.Bool.{true}
use Prim.Native.Nat.{ℕ}
use lib.Ieee.{Float}
use borrow.Author.Tests.{ltb-true, leb-true, lt-ltb, le-leb, not-true}
use Rattle.agreement.specs.rhythm.Landmark.{RhythmLandmark}
use Rattle.agreement.specs.passes.RhythmLandmarkTest.{is_rhythm_landmark}
use Rattle.std.proofs.lemmas.Bool.{not_from_false}
use Rattle.agreement.proofs.TestLaws.{all_first, all_rest, all_none, all_more}

module _ (margin : Float) (deltas : List Float) (t i : ℕ) where
  pub test_landmark : is_rhythm_landmark margin deltas t i ≡ true → RhythmLandmark margin deltas t i
  unfolding is_rhythm_landmark
  test_landmark e =
      let e₁ = all_rest _ _ e in
      let e₂ = all_rest _ _ e₁ in
      let e₃ = all_rest _ _ e₂ in
      record {
        before_there = ltb-true _ _ (all_first _ _ e);
        next_there = ltb-true _ _ (all_first _ _ e₁);
        of_tail = leb-true _ _ (all_first _ _ e₂);
        near = all_first _ _ e₃;
        not_near = not-true _ (all_first _ _ (all_rest _ _ e₃));
      }

  pub landmark_test : RhythmLandmark margin deltas t i → is_rhythm_landmark margin deltas t i ≡ true
  unfolding is_rhythm_landmark
  landmark_test m =
      all_more _ _ (lt-ltb _ _ m.before_there)
      (all_more _ _ (lt-ltb _ _ m.next_there)
      (all_more _ _ (le-leb _ _ m.of_tail) (all_more _ _ m.near (all_more _ _ (not_from_false _ m.not_near) all_none))))
