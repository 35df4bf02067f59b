-- Tests of all elements of a list, or of each two neighbours, computed once over the whole list, and what they say at each place.
-- And the value of a list that is mapped, at a place within it.
use mathlib.Core.Bool.{Bool, true, ◌&&◌}
use mathlib.Core.List.{List, [], ◌∷◌}
use Prim.Native.Nat.{ℕ, zero, suc, ◌+◌, ◌<◌}
use native.Mathlib.Nat.{le_of_suc-le-suc, not-suc-le-zero, zero-add, add-zero, add-suc, suc-add}
use lib.Dec.{T}
use lib.ListN.{length, get_or}
use lib.Ieee.Fits.{and_l, and_r}

-- ---- each element with its place, the places counted from i
abbrev pub every : (ℕ → ℕ → Bool) → ℕ → List ℕ → Bool
every f i [] = true
every f i (x ∷ xs) = f i x && every f (suc i) xs

every_at : (f : ℕ → ℕ → Bool) (xs : List ℕ) (i : ℕ) → T (every f i xs) → (k : ℕ) → k < length xs → T (f (i + k) (get_or xs k 0))
every_at f [] i t k h = absurd (not-suc-le-zero h)
every_at f (x ∷ xs) i t zero h = rw add-zero (and_l (f i x) (every f (suc i) xs) t)
every_at f (x ∷ xs) i t (suc k) h =
    rw (add-suc i k, ← suc-add i k)
    (every_at f xs (suc i) (and_r (f i x) (every f (suc i) xs) t) k (le_of_suc-le-suc h))

pub every_here : (f : ℕ → ℕ → Bool) (xs : List ℕ) → T (every f 0 xs) → (k : ℕ) → k < length xs → T (f k (get_or xs k 0))
every_here f xs t k h = rw zero-add at (every_at f xs 0 t k h)

-- a test that goes by the element alone, and that the 0 past the list's end passes too
pub at_or_past : (f : ℕ → Bool) (xs : List ℕ) (i : ℕ) → T (every (λ _. f) i xs) → T (f 0) → (k : ℕ) → T (f (get_or xs k 0))
at_or_past f [] i t z k = z
at_or_past f (x ∷ xs) i t z zero = and_l (f x) (every (λ _. f) (suc i) xs) t
at_or_past f (x ∷ xs) i t z (suc k) = at_or_past f xs (suc i) (and_r (f x) (every (λ _. f) (suc i) xs) t) z k

-- ---- each two neighbours
-- the && is on a computed Bool, so that the list is gone through once
abbrev pub pairs : (ℕ → ℕ → Bool) → List ℕ → Bool
pairs f [] = true
pairs f (x ∷ []) = true
pairs f (x ∷ y ∷ ys) = f x y && pairs f (y ∷ ys)

pub pairs_at : (f : ℕ → ℕ → Bool) (xs : List ℕ) → T (pairs f xs) → (k : ℕ) → suc k < length xs → T (f (get_or xs k 0) (get_or xs (suc k) 0))
pairs_at f [] t k h = absurd (not-suc-le-zero h)
pairs_at f (x ∷ []) t k h = absurd (not-suc-le-zero (le_of_suc-le-suc h))
pairs_at f (x ∷ y ∷ ys) t zero h = and_l (f x y) (pairs f (y ∷ ys)) t
pairs_at f (x ∷ y ∷ ys) t (suc k) h = pairs_at f (y ∷ ys) (and_r (f x y) (pairs f (y ∷ ys)) t) k (le_of_suc-le-suc h)
