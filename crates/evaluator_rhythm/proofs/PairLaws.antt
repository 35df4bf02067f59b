-- The search for a similar pair: an own interval is set against the older ones, by the library's `any`, and a search among four in the order of its tests.
use mathlib.Core.Path.{◌≡◌, refl, sym, ap}
use mathlib.Core.Bool.{Bool, true, false, ◌||◌}
use mathlib.Core.List.{List, [], ◌∷◌}
use lib.Ieee.{Float}
use Rattle.std.specs.List.{list_any}
use Rattle.evaluator_rhythm.specs.RepeatedInterval.{similar, similar_to, some_pair}

pub any_similar : (threshold newer : Float) (older : List Float) → list_any (similar threshold newer) older ≡ similar_to threshold newer older
unfolding similar_to
any_similar threshold newer [] = refl
any_similar threshold newer (o ∷ older) = ap (λ b. similar threshold newer o || b) (any_similar threshold newer older)

-- ---- of four, by the tests in their order: the newest with each older one, then what is left

four_or : (p q r u : Bool) → (p || (q || (r || false))) || u ≡ p || (q || (r || u))
four_or true q r u = refl
four_or false true r u = refl
four_or false false true u = refl
four_or false false false u = refl

module _ (threshold a b c d : Float) where
  pub four_tested : (p q r u : Bool) → similar threshold a b ≡ p → similar threshold a c ≡ q → similar threshold a d ≡ r
      → some_pair threshold (b ∷ c ∷ d ∷ []) ≡ u → p || (q || (r || u)) ≡ some_pair threshold (a ∷ b ∷ c ∷ d ∷ [])
  unfolding some_pair similar_to
  four_tested p q r u h k l m = rw (h, k, l, ← m) (sym (four_or p q r (some_pair threshold (b ∷ c ∷ d ∷ []))))
