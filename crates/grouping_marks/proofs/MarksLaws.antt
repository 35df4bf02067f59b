-- How many groups a list of marks has, how long the lists of numbers, places, sizes and firsts are, and how far the numbers go.
use mathlib.Core.Path.{◌≡◌, refl, ◌∙◌, ap}
use mathlib.Core.List.{List, [], ◌∷◌}
use mathlib.Core.Bool.{Bool, true, false, cond}
use Prim.Native.Nat.{ℕ, zero, suc, ◌+◌, ◌≤◌, ◌<◌}
use native.Mathlib.Nat.{le_of_suc-le-suc, not-suc-le-zero}
use native.Mathlib.Omega.{arith}
use lib.Dec.{eqb}
use lib.ListN.{length, get_or}
use borrow.Author.Tests.{eqb-true, eqb-false}
use Rattle.lent.specs.Scan.{scan, end_state}
use Rattle.grouping_marks.specs.Marks.{opened, number_by_mark, place_by_mark, group_count, group_numbers, group_places}
use Rattle.grouping_marks.specs.Marks.{sizes_from, group_sizes, firsts_from, group_firsts}
use Rattle.lent.proofs.ScanLaws.{length-scan}
use Rattle.lent.proofs.WalkLaws.{after_none, after_first, scan_first}

pub length-numbers : (marks : List ℕ) → length (group_numbers marks) ≡ length marks
unfolding group_numbers
length-numbers marks = length-scan opened number_by_mark 0 marks

pub length-places : (marks : List ℕ) → length (group_places marks) ≡ length marks
unfolding group_places
length-places marks = length-scan (λ p m. place_by_mark p m + 1) place_by_mark 0 marks

pub place_le : (p m : ℕ) → place_by_mark p m ≤ p
unfolding place_by_mark
place_le p m = go (eqb m 0)
  where
    go : (b : Bool) → cond b p 0 ≤ p
    go true = omega arith
    go false = omega arith

-- ---- the count

pub opened_bounds : (c m : ℕ) → (c ≤ opened c m) × ((1 ≤ opened c m) × (opened c m ≤ c + 1))
unfolding opened
opened_bounds c m = go (eqb m 0) (eqb c 0) refl
  where
    go : (a b : Bool) → eqb c 0 ≡ b → (c ≤ cond a (cond b 1 c) (c + 1)) × ((1 ≤ cond a (cond b 1 c) (c + 1)) × (cond a (cond b 1 c) (c + 1) ≤ c + 1))
    go true true e = omega (arith, eqb-true c 0 e)
    go true false e = let h : c ≡ 0 → ⊥ = eqb-false c 0 e in omega arith
    go false b e = omega arith

-- the first item opens a group whatever its mark; after it the mark alone says so
pub opened_first : (m : ℕ) → opened 0 m ≡ 1
unfolding opened
opened_first m = go (eqb m 0)
  where
    go : (a : Bool) → ◌≡◌ {A = ℕ} (cond a 1 1) 1
    go true = refl
    go false = refl

pub opened-later : (c m o : ℕ) → o ≡ cond (eqb m 0) 0 1 → opened (c + 1) m ≡ c + o + 1
unfolding opened
opened-later c m o e = go (eqb m 0) (eqb (c + 1) 0) refl e
  where
    go : (a b : Bool) → eqb (c + 1) 0 ≡ b → o ≡ cond a 0 1 → cond a (cond b 1 (c + 1)) (c + 1 + 1) ≡ c + o + 1
    go true true z e = absurd (omega (arith, eqb-true (c + 1) 0 z))
    go true false z e = omega arith
    go false b z e = omega arith

after_bounds : (c : ℕ) (marks : List ℕ) → (c ≤ end_state opened c marks) × (end_state opened c marks ≤ c + length marks)
after_bounds c [] = omega (arith, after_none opened c)
after_bounds c (m ∷ ms) = omega (arith, after_first opened c m ms, opened_bounds c m, after_bounds (opened c m) ms)

-- there are at most as many groups as items
pub count_le : (marks : List ℕ) → group_count marks ≤ length marks
unfolding group_count
count_le marks = omega (arith, after_bounds 0 marks)

-- no items, no groups; else at least one
pub count_none : (marks : List ℕ) → length marks ≡ 0 → group_count marks ≡ 0
count_none marks h = omega (arith, count_le marks)

number_below : (c : ℕ) (marks : List ℕ) (i : ℕ) → i < length marks → get_or (scan opened number_by_mark c marks) i 0 < end_state opened c marks
number_below c [] i h = absurd (not-suc-le-zero h)
number_below c (m ∷ ms) zero h = rw (scan_first, after_first) (omega (arith, opened_bounds c m, after_bounds (opened c m) ms))
number_below c (m ∷ ms) (suc i) h = rw (scan_first, after_first) (number_below (opened c m) ms i (le_of_suc-le-suc h))

-- each item's number is below the count
pub numbers-below : (marks : List ℕ) (i : ℕ) → i < length marks → get_or (group_numbers marks) i 0 < group_count marks
unfolding group_numbers group_count
numbers-below marks i h = number_below 0 marks i h

-- ---- the sizes and the firsts

sizes-count : (c p : ℕ) (marks : List ℕ) → c + length (sizes_from p marks) ≡ end_state opened (c + 1) marks
unfolding sizes_from opened
sizes-count c p [] = rw after_none
sizes-count c p (m ∷ ms) = rw after_first (go (eqb m 0) (eqb (c + 1) 0) refl (sizes-count c (p + 1) ms) (sizes-count (c + 1) 1 ms))
  where
    go : (a b : Bool) → eqb (c + 1) 0 ≡ b → c + length (sizes_from (p + 1) ms) ≡ end_state opened (c + 1) ms
        → c + 1 + length (sizes_from 1 ms) ≡ end_state opened (c + 1 + 1) ms
        → c + length (cond a (sizes_from (p + 1) ms) (p ∷ sizes_from 1 ms)) ≡ end_state opened (cond a (cond b 1 (c + 1)) (c + 1 + 1)) ms
    go true true e x y = absurd (omega (arith, eqb-true (c + 1) 0 e))
    go true false e x y = x
    go false b e x y = omega arith

-- there are as many sizes as groups
pub length-sizes : (marks : List ℕ) → length (group_sizes marks) ≡ group_count marks
unfolding group_sizes group_count
length-sizes [] = rw after_none
length-sizes (m ∷ ms) = rw (after_first, opened_first) (omega (arith, sizes-count 0 1 ms))

firsts-count : (p : ℕ) (marks xs : List ℕ) → length marks ≤ length xs → suc (length (firsts_from marks xs)) ≡ length (sizes_from p marks)
unfolding firsts_from sizes_from
firsts-count p [] xs h = refl
firsts-count p (m ∷ ms) [] h = absurd (not-suc-le-zero h)
firsts-count p (m ∷ ms) (x ∷ xs) h = go (eqb m 0) (firsts-count (p + 1) ms xs (le_of_suc-le-suc h)) (firsts-count 1 ms xs (le_of_suc-le-suc h))
  where
    go : (a : Bool) → suc (length (firsts_from ms xs)) ≡ length (sizes_from (p + 1) ms) → suc (length (firsts_from ms xs)) ≡ length (sizes_from 1 ms)
        → suc (length (cond a (firsts_from ms xs) (x ∷ firsts_from ms xs))) ≡ length (cond a (sizes_from (p + 1) ms) (p ∷ sizes_from 1 ms))
    go true u v = u
    go false u v = ap suc v

-- there are as many firsts as groups
pub length-firsts : (marks xs : List ℕ) → length marks ≤ length xs → length (group_firsts marks xs) ≡ group_count marks
unfolding group_firsts group_sizes
length-firsts [] xs h = length-sizes []
length-firsts (m ∷ ms) [] h = absurd (not-suc-le-zero h)
length-firsts (m ∷ ms) (x ∷ xs) h = firsts-count 1 ms xs (le_of_suc-le-suc h) ∙ length-sizes (m ∷ ms)
