-- Walks that carry a state, by their states: the first step, what is emitted at a place, and two walks over one list whose states stay alike.
use mathlib.Core.Path.{◌≡◌, refl}
use mathlib.Core.List.{List, [], ◌∷◌}
use Prim.Native.Nat.{ℕ, zero, suc, ◌<◌}
use native.Mathlib.Nat.{le_of_suc-le-suc, not-suc-le-zero}
use lib.ListN.{length, take, get_or}
use Rattle.lent.specs.Scan.{scan, end_state}

module _ {S A : Type 0} (next : S → A → S) where
  pub after_none : (s : S) → end_state next s [] ≡ s
  unfolding end_state
  after_none s = refl

  pub after_first : (s : S) (x : A) (xs : List A) → end_state next s (x ∷ xs) ≡ end_state next (next s x) xs
  unfolding end_state
  after_first s x xs = refl

  -- a relation of states that every step keeps
  module _ (Alike : S → S → Type 0) (keeps : (s t : S) (x : A) → Alike s t → Alike (next s x) (next t x)) where
    pub after_alike : (s t : S) (xs : List A) → Alike s t → Alike (end_state next s xs) (end_state next t xs)
    unfolding end_state
    after_alike s t [] a = a
    after_alike s t (x ∷ xs) a = after_alike (next s x) (next t x) xs (keeps s t x a)

    -- an element behind which any two states are alike
    pub after_hides : (d : A) (xs : List A) (i : ℕ) → i < length xs → ((s t : S) → Alike (next s (get_or xs i d)) (next t (get_or xs i d))) → (s t : S)
        → Alike (end_state next s xs) (end_state next t xs)
    unfolding end_state
    after_hides d [] i h hides s t = absurd (not-suc-le-zero h)
    after_hides d (x ∷ xs) zero h hides s t = after_alike (next s x) (next t x) xs (hides s t)
    after_hides d (x ∷ xs) (suc i) h hides s t = after_hides d xs i (le_of_suc-le-suc h) hides (next s x) (next t x)

    -- alike states that emit the same
    pub scan-alike : {B : Type 0} (emit : S → A → B) → ((s t : S) (x : A) → Alike s t → emit s x ≡ emit t x) → (s t : S) (xs : List A) → Alike s t
        → scan next emit s xs ≡ scan next emit t xs
    unfolding scan
    scan-alike emit same s t [] a = refl
    scan-alike emit same s t (x ∷ xs) a = λ i. same s t x a i ∷ scan-alike emit same (next s x) (next t x) xs (keeps s t x a) i

module _ {S A B : Type 0} (next : S → A → S) (emit : S → A → B) where
  pub scan_none : (s : S) → scan next emit s [] ≡ []
  unfolding scan
  scan_none s = refl

  pub scan_first : (s : S) (x : A) (xs : List A) → scan next emit s (x ∷ xs) ≡ emit s x ∷ scan next emit (next s x) xs
  unfolding scan
  scan_first s x xs = refl

pub get_or-scan : {S A B : Type 0} (next : S → A → S) (emit : S → A → B) (s : S) (xs : List A) (i : ℕ) (d : A) (b : B) → i < length xs
    → get_or (scan next emit s xs) i b ≡ emit (end_state next s (take i xs)) (get_or xs i d)
unfolding scan end_state
get_or-scan next emit s [] i d b h = absurd (not-suc-le-zero h)
get_or-scan next emit s (x ∷ xs) zero d b h = refl
get_or-scan next emit s (x ∷ xs) (suc i) d b h = get_or-scan next emit (next s x) xs i d b (le_of_suc-le-suc h)
