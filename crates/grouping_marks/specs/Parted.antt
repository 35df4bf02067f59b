-- The items of each group, by the marks of Marks.antt.
use Rattle.std.specs.Prelude.{ℕ, cond, List, [], ◌∷◌, ◌++◌, eqb}

-- the groups, where the open one has the items `group` so far
unfoldable pub parted_after : {A : Type 0} → List A → List ℕ → List A → List (List A)
parted_after group [] xs = group ∷ []
parted_after group (m ∷ ms) [] = group ∷ []
parted_after group (m ∷ ms) (x ∷ xs) =
    cond (eqb m 0) (parted_after (group ++ (x ∷ [])) ms xs) (group ∷ parted_after (x ∷ []) ms xs)

-- the items of each group, in order
unfoldable pub parted : {A : Type 0} → List ℕ → List A → List (List A)
unfolding parted_after
parted [] xs = []
parted (m ∷ ms) [] = []
parted (m ∷ ms) (x ∷ xs) = parted_after (x ∷ []) ms xs
