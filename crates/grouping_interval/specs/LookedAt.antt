-- At which neighbours a grouping looks, as their classes one after another (change requests: 6/12). It asks for each
-- value that doesn't open a group whatever it is, with the one behind it; behind a rise the next value does, so that
-- one is passed over. Of more than two values, the last two are asked in any case.
use Rattle.std.specs.Prelude.{ℕ, Bool, false, ◌||◌, cond, List, [], ◌∷◌, eqb, ltb, length}

-- behind a value that a group took, which is `last`; `many` says that there are more than two values in all
unfoldable pub looked_after : {A : Type 0} → (A → A → ℕ) → Bool → A → List A → List ℕ
looked_after class many last [] = []
looked_after class many last (v ∷ []) = cond many (class last v ∷ []) []
looked_after class many last (v ∷ w ∷ rest) =
    class v w ∷ cond (eqb (class v w) 1) (looked_after class many w rest) (looked_after class many v (w ∷ rest))

unfoldable pub looked_at : {A : Type 0} → (A → A → ℕ) → List A → List ℕ
looked_at class [] = []
looked_at class (v ∷ values) = looked_after class (ltb 1 (length values)) v values

-- whether a class is among some
unfoldable pub among : ℕ → List ℕ → Bool
among class [] = false
among class (c ∷ cs) = eqb c class || among class cs
