-- Values in IEEE 754's total order (5.10), −0 before +0, by insertion.
use Rattle.std.specs.Prelude.{ℕ, ◌<◌, cond, List, [], ◌∷◌, T, length, get_or, Float}
use Rattle.std.specs.Float.{nan}
use Rattle.std.specs.Float.Ieee.Scale.{finite}
use Rattle.numeric.specs.TotalOrder.{total_order}

-- x before the first value that it is not behind
unfoldable pub insert : Float → List Float → List Float
insert x [] = x ∷ []
insert x (y ∷ ys) = cond (total_order x y) (x ∷ y ∷ ys) (y ∷ insert x ys)

unfoldable pub ordered : List Float → List Float
ordered [] = []
ordered (x ∷ xs) = insert x (ordered xs)

-- what sorting asks: the order is total on finite values
pub record AllFinite (values : List Float) : Type 0 where
  pub each : (i : ℕ) → i < length values → T (finite (get_or values i nan))
