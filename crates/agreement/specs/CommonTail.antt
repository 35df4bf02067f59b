-- How two lists that end alike are laid side by side (scope: "Landmarks"): counterparts, and the last m.
use Rattle.std.specs.Prelude.{ℕ, ◌+◌, ◌-◌, ◌≤◌, ◌≡◌, List, length, drop}

-- number i of n and number i' of n' are counterparts: equally far from the two ends. For objects, notes, landmarks and
-- the ends of stretches
abbrev pub Counterparts : ℕ → ℕ → ℕ → ℕ → Type 0
Counterparts n n' i i' = n + i' ≡ n' + i

-- the last m of a list
abbrev pub last_of : {A : Type 0} → ℕ → List A → List A
last_of m xs = drop (length xs - m) xs

-- two lists have m items or more, and their last m are alike: equal, and so in all bits where none is a NaN
pub record SameLast {A : Type 0} (m : ℕ) (xs ys : List A) : Type 0 where
  pub inside : m ≤ length xs
  pub inside' : m ≤ length ys
  pub alike : last_of m xs ≡ last_of m ys
