-- A test of every element of a list, by the elements and by the places.
-- The same for any list and test.
use Rattle.std.proofs.Common.{◌≡◌, refl, sym, ap, ◌∙◌, ℕ, zero, suc, ◌<◌, Bool, true, ◌&&◌, List, [], ◌∷◌, ◌++◌, length, ⊎_elim, eq-or-lt_of_le}
use mathlib.Core.Bool.{and_assoc, and-true}
use native.Mathlib.Omega.{arith}
use lib.ListN.{get_or}
use Rattle.std.proofs.lemmas.Bool.{and_parts}
use Rattle.lent.specs.Scan.{tabulate}
use Rattle.lent.proofs.FillLaws.{tabulate_places, tabulate_none, tabulate-last}
use Rattle.grouping_chart.specs.passes.Good.{all, all_places}

-- ---- by the elements

pub all_none : {A : Type 0} (test : A → Bool) → all test [] ≡ true
unfolding all
all_none test = refl

pub all_more : {A : Type 0} (test : A → Bool) (x : A) (xs : List A) → test x ≡ true → all test xs ≡ true → all test (x ∷ xs) ≡ true
unfolding all
all_more test x xs e f = rw (e, f)

-- where all pass, each does
pub all_each : {A : Type 0} (test : A → Bool) (xs : List A) → all test xs ≡ true → (i : ℕ) (d : A) → i < length xs → test (get_or xs i d) ≡ true
unfolding all
all_each test [] e i d h = absurd (omega arith)
all_each test (x ∷ xs) e zero d h = (and_parts (test x) (all test xs) e).0
all_each test (x ∷ xs) e (suc i) d h = all_each test xs (and_parts (test x) (all test xs) e).1 i d (omega arith)

-- where each passes, all do
pub each_all : {A : Type 0} (test : A → Bool) (xs : List A) (d : A) → ((i : ℕ) → i < length xs → test (get_or xs i d) ≡ true) → all test xs ≡ true
unfolding all
each_all test [] d e = refl
each_all test (x ∷ xs) d e = rw (e 0 (omega arith), each_all test xs d (λ i h. e (suc i) (omega arith)))

-- ---- by the places

all_last : {A : Type 0} (test : A → Bool) (xs : List A) (x : A) → all test (xs ++ (x ∷ [])) ≡ (all test xs && test x)
unfolding all
all_last test [] x = and-true (test x)
all_last test (y ∷ ys) x = ap (λ b. test y && b) (all_last test ys x) ∙ sym (and_assoc (test y) (all test ys) (test x))

-- of a list that is made by its places
pub places_tabulated : {A : Type 0} (test : A → Bool) (f : ℕ → A) (n : ℕ) → all_places (λ i. test (f i)) n ≡ all test (tabulate f n)
unfolding all_places all
places_tabulated test f zero = ap (all test) (sym (tabulate_none f))
places_tabulated test f (suc n) =
    ap (λ b. b && test (f n)) (places_tabulated test f n) ∙ sym (all_last test (tabulate f n) (f n)) ∙ ap (all test) (sym (tabulate-last f n))

pub places_all : {A : Type 0} (test : A → Bool) (xs : List A) (d : A) → all_places (λ i. test (get_or xs i d)) (length xs) ≡ all test xs
places_all test xs d = places_tabulated test (λ i. get_or xs i d) (length xs) ∙ ap (all test) (tabulate_places xs d (length xs) refl)

-- a test that passes at every place passes at each
pub places_each : (passes : ℕ → Bool) (n : ℕ) → all_places passes n ≡ true → (i : ℕ) → i < n → passes i ≡ true
unfolding all_places
places_each passes zero e i h = absurd (omega arith)
places_each passes (suc n) e i h =
    let t = and_parts _ _ e in
    ⊎_elim (λ k. rw k t.1) (λ k. places_each passes n t.0 i k) (eq-or-lt_of_le (omega arith))
