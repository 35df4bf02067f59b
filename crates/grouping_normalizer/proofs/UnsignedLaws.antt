-- Under a margin that is not negative the sets are those under its size, and so are their middles.
use mathlib.Core.Path.{◌≡◌, refl}
use mathlib.Core.Bool.{cond}
use mathlib.Core.List.{List, [], ◌∷◌, ◌++◌}
use lib.Ieee.{Float}
use Rattle.numeric.specs.Near.{abs_of}
use Rattle.numeric.proofs.ZeroSign.{NotNegative, near_unsigned}
use Rattle.grouping_normalizer.specs.Normalizer.{distinct, sets_after, sets, middle_of, normal_of}

module _ {margin : Float} (h : NotNegative margin) where
  after_unsigned : (first : Float) (set values : List Float) → sets_after margin first set values ≡ sets_after (abs_of margin) first set values
  unfolding sets_after
  after_unsigned first set [] = refl
  after_unsigned first set (v ∷ values) =
      λ i. cond (near_unsigned h i v first) (after_unsigned first (set ++ (v ∷ [])) values i) (set ∷ after_unsigned v (v ∷ []) values i)

  sets_unsigned : (values : List Float) → sets margin values ≡ sets (abs_of margin) values
  unfolding sets
  sets_unsigned [] = refl
  sets_unsigned (v ∷ values) = after_unsigned v (v ∷ []) values

  pub normal_unsigned : normal_of margin ≡ normal_of (abs_of margin)
  unfolding normal_of
  normal_unsigned = λ i deltas x. middle_of x (sets_unsigned (distinct deltas) i)
