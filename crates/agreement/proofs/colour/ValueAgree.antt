-- Colour values behind a landmark: what the evaluator looks at agrees by `Agree`, and the ratio penalty since both objects have an idx of at least 4 and idx −
-- 2 is of the tail.
use mathlib.Core.Path.{◌≡◌, refl, sym, ap, ◌∙◌, subst₂}
use mathlib.Core.Bool.{not}
use mathlib.Core.List.{List}
use Prim.Native.Nat.{ℕ, ◌+◌, ◌-◌, ◌≤◌, ◌<◌}
use native.Mathlib.Omega.{arith}
use lib.ListN.{length, get_or}
use lib.Ieee.{Float, nan}
use Rattle.grouping_colour.specs.MonoStreak.{streak_of}
use Rattle.grouping_preprocessor.specs.Preprocessor.{alternating_of, hit_of}
use Rattle.evaluator_values.specs.Colour.{is_first, standing_at, colour_at}
use Rattle.evaluator_values.proofs.StandingLaws.{change_first}
use Rattle.evaluator_values.proofs.AlikeLaws.{standing_alike, colour-alike}
use Rattle.agreement.specs.CommonTail.{Counterparts, SameLast}
use Rattle.agreement.specs.passes.Agreement.{FirstAlike, Agree}
use Rattle.agreement.proofs.TailLaws.{same_at}

-- object 0 apart, an object is first exactly when it is not of the group of the object before
first_agree : (xs ys : List ℕ) (a b j : ℕ) → 0 < a → 0 < b → FirstAlike xs ys a b j → is_first xs (a + j) ≡ is_first ys (b + j)
first_agree xs ys a b j h k e =
    sym (change_first xs (a + j) _ _ (λ z. omega arith) refl refl) ∙ ap not e ∙ change_first ys (b + j) _ _ (λ z. omega arith) refl refl

module _ {limit : ℕ} {kinds : List ℕ} {a g : ℕ} {kinds' : List ℕ} {b h : ℕ} (r : Agree limit kinds a g kinds' b h) where
  -- what holds of the j-th objects behind the landmark, for every j, holds of counterparts
  pub at_counterparts : (P : ℕ → ℕ → Type 0) → ((j : ℕ) → P (a + j) (b + j)) → (i i' : ℕ) → a ≤ i → Counterparts (length kinds) (length kinds') i i' → P i i'
  at_counterparts P f i i' l e =
      let x : a + (i - a) ≡ i = omega arith in
      let y : b + (i - a) ≡ i' = omega (arith, r.objects) in
      subst₂ P x y (f (i - a))

  standing_agree : (j : ℕ) → a + j < length kinds → g + limit ≤ get_or (hit_of kinds) (a + j) 0 + 1
      → standing_at limit kinds (a + j) ≡ standing_at limit kinds' (b + j)
  standing_agree j l n =
      standing_alike limit kinds (a + j) kinds' (b + j) (r.interval j l n) (r.pattern-place j l) (r.streak-place j l)
      (first_agree (streak_of kinds) (streak_of kinds') a b j r.cut.some r.cut'.some (r.streak_first j l))
      (first_agree (alternating_of kinds) (alternating_of kinds') a b j r.cut.some r.cut'.some (r.pattern_first j l))
      (first_agree (hit_of kinds) (hit_of kinds') a b j r.cut.some r.cut'.some (r.hit_first j l))

  -- each object has a ratio, the last m of these are alike, and the landmark stands four objects into the tail or later
  module _ (tolerance : Float) {ratios ratios' : List Float} {m : ℕ} (whole : length ratios ≡ length kinds) (whole' : length ratios' ≡ length kinds')
      (s : SameLast m ratios ratios') (late : length kinds + 4 ≤ a + m) where
    same_ratio : (i i' : ℕ) → length kinds ≤ i + m → Counterparts (length kinds) (length kinds') i i' → get_or ratios i nan ≡ get_or ratios' i' nan
    same_ratio i i' f k = same_at s i i' (omega arith) (omega arith) nan

    value-behind : (j : ℕ) → a + j < length kinds → g + limit ≤ get_or (hit_of kinds) (a + j) 0 + 1
        → colour_at limit tolerance kinds ratios (a + j) ≡ colour_at limit tolerance kinds' ratios' (b + j)
    value-behind j l n =
        let this = same_ratio (a + j) (b + j) (omega arith) (omega (arith, r.objects)) in
        let earlier = same_ratio (a + j - 2) (b + j - 2) (omega arith) (omega (arith, r.objects, s.inside, s.inside')) in
        colour-alike limit tolerance kinds ratios (a + j) kinds' ratios' (b + j) (standing_agree j l n) this earlier
        (omega (arith, s.inside)) (omega (arith, r.objects, s.inside'))

    pub value-agree : (i i' : ℕ) → a ≤ i → Counterparts (length kinds) (length kinds') i i' → i < length kinds → g + limit ≤ get_or (hit_of kinds) i 0 + 1
        → colour_at limit tolerance kinds ratios i ≡ colour_at limit tolerance kinds' ratios' i'
    value-agree =
        at_counterparts
        (λ (i i' : ℕ). i < length kinds → g + limit ≤ get_or (hit_of kinds) i 0 + 1
        → colour_at limit tolerance kinds ratios i ≡ colour_at limit tolerance kinds' ratios' i')
        value-behind
