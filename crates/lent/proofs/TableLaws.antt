-- Lists made by a function of the place, cut in two; entries past the cut; and entries looked up in a table that is cut in two.
use mathlib.Core.Path.{◌≡◌, refl}
use mathlib.Core.Bool.{Bool, true, false}
use mathlib.Core.List.{List, [], ◌∷◌, ◌++◌, map, append-nil, append_assoc}
use Prim.Native.Nat.{ℕ, zero, suc, ◌+◌, ◌<◌}
use native.Mathlib.Nat.{add-zero, add-suc}
use native.Mathlib.Omega.{arith}
use borrow.Author.Tests.{lt-ltb, le-ltb, ltb-true, ltb-false}
use lib.Dec.{ltb}
use lib.ListN.{length, get_or, length-append, get_or-append}
use lib.Seq.{get_or-append-add}
use Rattle.lent.specs.Scan.{tabulate, gathered}
use Rattle.lent.specs.passes.Bounds.{AllBelow}
use Rattle.std.proofs.lemmas.List.{get_or-map}
use Rattle.lent.proofs.FillLaws.{tabulate-agree}

tabulate_split : {B : Type 0} (f : ℕ → B) (a b : ℕ) → tabulate f (a + b) ≡ tabulate f a ++ tabulate (λ i. f (a + i)) b
unfolding tabulate
tabulate_split f a zero = rw (add-zero a, append-nil (tabulate f a))
tabulate_split f a (suc b) =
    rw (add-suc a b, tabulate, tabulate_split f a b) (append_assoc (tabulate f a) (tabulate (λ i. f (a + i)) b) (f (a + b) ∷ []))

-- a list of one element for each of xs ++ ys: the part for ys is made by g, if g is f counted from there
pub tabulate-cut : {A B : Type 0} (f g : ℕ → B) (xs ys : List A) → ((i : ℕ) → i < length ys → f (length xs + i) ≡ g i)
    → tabulate f (length (xs ++ ys)) ≡ tabulate f (length xs) ++ tabulate g (length ys)
tabulate-cut f g xs ys h = rw (length-append xs ys, tabulate_split f (length xs) (length ys), tabulate-agree (λ i. f (length xs + i)) g (length ys) h)

-- the same, with the part for xs made by another function too
pub tabulate_cut₂ : {A B : Type 0} (f e g : ℕ → B) (xs ys : List A) → ((i : ℕ) → i < length xs → f i ≡ e i)
    → ((i : ℕ) → i < length ys → f (length xs + i) ≡ g i)
    → tabulate f (length (xs ++ ys)) ≡ tabulate e (length xs) ++ tabulate g (length ys)
tabulate_cut₂ {B} f e g xs ys h k =
    rw (tabulate-cut f g xs ys k, tabulate-agree f e (length xs) h)

-- ---- past the cut

-- counted from the cut, an entry past it, and one k further on
pub get_or_past : (front back : List ℕ) (n i k : ℕ) → length front ≡ n → get_or (front ++ back) (n + i + k) 0 ≡ get_or back (i + k) 0
get_or_past front back n i k e = let z : n + i + k ≡ length front + (i + k) = omega arith in rw z (get_or-append-add front back (i + k) 0)

pub ltb_past : (front back : List ℕ) (i k : ℕ) → ltb (length front + i + k) (length (front ++ back)) ≡ ltb (i + k) (length back)
ltb_past front back i k = by (ltb (i + k) (length back)) refl
  where
    by : (b : Bool) → ltb (i + k) (length back) ≡ b → ltb (length front + i + k) (length (front ++ back)) ≡ b
    by true e = lt-ltb (length front + i + k) (length (front ++ back)) (omega (arith, ltb-true (i + k) (length back) e, length-append front back))
    by false e = le-ltb (length front + i + k) (length (front ++ back)) (omega (arith, ltb-false (i + k) (length back) e, length-append front back))

-- ---- tables

pub gathered-append : (table idx idx' : List ℕ) → gathered table (idx ++ idx') ≡ gathered table idx ++ gathered table idx'
unfolding gathered
gathered-append table [] idx' = refl
gathered-append table (j ∷ idx) idx' = rw (gathered-append table idx idx')

-- numbers below the length of the table's front look up the front
pub gathered_front : (front back idx : List ℕ) → AllBelow idx (length front) → gathered (front ++ back) idx ≡ gathered front idx
unfolding gathered
gathered_front front back [] h = refl
gathered_front front back (j ∷ idx) h =
    λ i. get_or-append front back 0 j (h 0 (omega arith)) i ∷ gathered_front front back idx (λ k l. h (suc k) (omega arith)) i

-- numbers moved on by the length of the table's front look up the table's back
pub gathered-back : (front back idx : List ℕ) (n : ℕ) → length front ≡ n → gathered (front ++ back) (map (λ (j : ℕ). n + j) idx) ≡ gathered back idx
unfolding gathered
gathered-back front back [] n e = refl
gathered-back front back (j ∷ idx) n e = λ i. here i ∷ gathered-back front back idx n e i
  where
    here : get_or (front ++ back) (n + j) 0 ≡ get_or back j 0
    here = rw (← e) (get_or-append-add front back j 0)

-- a table whose entries are moved on gives entries moved on
pub gathered_moved : (table idx : List ℕ) (n : ℕ) → AllBelow idx (length table)
    → gathered (map (λ (j : ℕ). n + j) table) idx ≡ map (λ (j : ℕ). n + j) (gathered table idx)
unfolding gathered
gathered_moved table [] n h = refl
gathered_moved table (j ∷ idx) n h =
    λ i. get_or-map (λ (k : ℕ). n + k) table j 0 0 (h 0 (omega arith)) i ∷ gathered_moved table idx n (λ k l. h (suc k) (omega arith)) i
