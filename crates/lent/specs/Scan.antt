-- Two ways to make a list: a walk over another list that carries a state, and a function of the place.
use Rattle.std.specs.Prelude.{ℕ, zero, suc, List, [], ◌∷◌, ◌++◌, map, get_or}

-- `next` is the state after an element, and `emit` what is written for it
unfoldable pub scan : {S A B : Type 0} → (S → A → S) → (S → A → B) → S → List A → List B
scan next emit s [] = []
scan next emit s (x ∷ xs) = emit s x ∷ scan next emit (next s x) xs

-- the state after the whole list
unfoldable pub end_state : {S A : Type 0} → (S → A → S) → S → List A → S
end_state next s [] = s
end_state next s (x ∷ xs) = end_state next (next s x) xs

-- f at each number below n
unfoldable pub tabulate : {B : Type 0} → (ℕ → B) → ℕ → List B
tabulate f zero = []
tabulate f (suc n) = tabulate f n ++ (f n ∷ [])

-- what a table has at each number
unfoldable pub gathered : List ℕ → List ℕ → List ℕ
gathered table idx = map (λ (j : ℕ). get_or table j 0) idx
