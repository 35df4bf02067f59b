-- Lists written over, and parts of lists: what lent memory holds after a call is said with these.
use Rattle.std.specs.Prelude.{ℕ, List, [], ◌∷◌, ◌++◌, length, take, drop}

-- `old` with `new` written over its front: places past `new` keep what they held
unfoldable pub over : {A : Type 0} → List A → List A → List A
over new old = new ++ drop (length new) old

-- `old` with `new` written from place a on
unfoldable pub put : {A : Type 0} → ℕ → List A → List A → List A
unfolding over
put a new old = take a old ++ over new (drop a old)

-- the n places from place a on
unfoldable pub part : {A : Type 0} → ℕ → ℕ → List A → List A
part a n xs = take n (drop a xs)

-- a list, and the place from which on it is written
pub record Write (A : Type 0) : Type 0 where
  pub place : ℕ
  pub items : List A

abbrev pub write : {A : Type 0} → ℕ → List A → Write A
write place items = record { place = place; items = items }

-- `old` after some lists were written, one after the other
abbrev pub written : {A : Type 0} → List (Write A) → List A → List A
written [] old = old
written (x ∷ xs) old = written xs (put x.place x.items old)
