-- The landmark of rhythm/Landmark.antt as a test that computes. `test_landmark` and `landmark_test`, in
-- proofs/rhythm/LandmarkLaws.antt, say that it finds exactly these.
use Rattle.std.specs.Prelude.{ℕ, ◌+◌, ◌-◌, Bool, not, List, [], ◌∷◌, leb, ltb, length, get_or, Float}
use Rattle.std.specs.Float.{nan}
use Rattle.numeric.specs.Near.{is_near}
use Rattle.agreement.specs.passes.Tests.{all_true}

unfoldable pub is_rhythm_landmark : Float → List Float → ℕ → ℕ → Bool
is_rhythm_landmark margin deltas t i =
    all_true (ltb 0 i
    ∷ ltb (i + 1) (length deltas)
    ∷ leb (length deltas) (i - 1 + t)
    ∷ is_near margin (get_or deltas (i - 1) nan) (get_or deltas i nan)
    ∷ not (is_near margin (get_or deltas i nan) (get_or deltas (i + 1) nan))
    ∷ [])
