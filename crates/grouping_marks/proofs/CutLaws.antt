-- What follows from a list of marks, where it is cut at an item that opens a group: each derived list is the front's and then the back's.
use mathlib.Core.Path.{◌≡◌, refl}
use mathlib.Core.List.{List, [], ◌∷◌, ◌++◌, map, append-nil}
use mathlib.Core.Bool.{Bool, true, false, cond}
use Prim.Native.Nat.{ℕ, ◌+◌, ◌-◌, ◌≤◌, ◌<◌}
use native.Mathlib.Omega.{arith}
use lib.Dec.{eqb}
use lib.ListN.{length, get_or}
use borrow.Author.Tests.{eq-eqb, ne_eqb, eqb-true}
use Rattle.lent.specs.Scan.{scan, end_state}
use Rattle.grouping_marks.specs.Marks.{opened, number_by_mark, place_by_mark, group_count, group_numbers, group_places}
use Rattle.grouping_marks.specs.Marks.{sizes_from, group_sizes, firsts_from, group_firsts}
use Rattle.grouping_marks.proofs.MarksLaws.{opened_bounds}
use Rattle.lent.proofs.ScanLaws.{scan-append, after_append}
use Rattle.lent.proofs.WalkLaws.{after_none, after_first, scan_none, scan_first}

-- ---- which lists may stand behind a cut: the empty one, and those whose first item opens a group

pub data Opening : List ℕ → Type 0 where
  nothing_left : Opening []
  opens : {m : ℕ} {ms : List ℕ} → (m ≡ 0 → ⊥) → Opening (m ∷ ms)

pub opening_at : (ms : List ℕ) → (0 < length ms → get_or ms 0 0 ≡ 1) → Opening ms
opening_at [] h = nothing_left
opening_at (m ∷ ms) h = let e : m ≡ 1 = h (omega arith) in let n : m ≡ 0 → ⊥ = λ z. omega arith in opens n

-- a part of such a list, from its start on
pub opening_front : (fs bs : List ℕ) → Opening (fs ++ bs) → Opening fs
opening_front [] bs o = nothing_left
opening_front (m ∷ ms) bs (opens z) = opens z

-- ---- the sizes

sizes_from_lem : (p : ℕ) (fs : List ℕ) (m : ℕ) (ms : List ℕ) → (m ≡ 0 → ⊥) → sizes_from p (fs ++ m ∷ ms) ≡ sizes_from p fs ++ sizes_from 1 ms
unfolding sizes_from
sizes_from_lem p [] m ms z = rw (ne_eqb m 0 z)
sizes_from_lem p (f ∷ fs) m ms z = by (eqb f 0) (sizes_from_lem (p + 1) fs m ms z) (sizes_from_lem 1 fs m ms z)
  where
    by : (b : Bool) → sizes_from (p + 1) (fs ++ m ∷ ms) ≡ sizes_from (p + 1) fs ++ sizes_from 1 ms
        → sizes_from 1 (fs ++ m ∷ ms) ≡ sizes_from 1 fs ++ sizes_from 1 ms
        → cond b (sizes_from (p + 1) (fs ++ m ∷ ms)) (p ∷ sizes_from 1 (fs ++ m ∷ ms)) ≡ cond b (sizes_from (p + 1) fs) (p ∷ sizes_from 1 fs) ++ sizes_from 1 ms
    by true u v = u
    by false u v = rw v

pub sizes-cut : (fs bs : List ℕ) → Opening bs → group_sizes (fs ++ bs) ≡ group_sizes fs ++ group_sizes bs
unfolding group_sizes
sizes-cut [] bs o = refl
sizes-cut (f ∷ fs) [] o = rw (append-nil fs, append-nil (sizes_from 1 fs))
sizes-cut (f ∷ fs) (m ∷ ms) (opens z) = sizes_from_lem 1 fs m ms z

-- ---- the firsts

firsts_from_lem : (fs xs : List ℕ) (m : ℕ) (ms : List ℕ) (y : ℕ) (ys : List ℕ) → (m ≡ 0 → ⊥) → length fs ≡ length xs
    → firsts_from (fs ++ m ∷ ms) (xs ++ y ∷ ys) ≡ firsts_from fs xs ++ y ∷ firsts_from ms ys
unfolding firsts_from
firsts_from_lem [] [] m ms y ys z e = rw (ne_eqb m 0 z)
firsts_from_lem [] (x ∷ xs) m ms y ys z e = absurd (omega arith)
firsts_from_lem (f ∷ fs) [] m ms y ys z e = absurd (omega arith)
firsts_from_lem (f ∷ fs) (x ∷ xs) m ms y ys z e = by (eqb f 0) (firsts_from_lem fs xs m ms y ys z (omega arith))
  where
    by : (b : Bool) → firsts_from (fs ++ m ∷ ms) (xs ++ y ∷ ys) ≡ firsts_from fs xs ++ y ∷ firsts_from ms ys
        → cond b (firsts_from (fs ++ m ∷ ms) (xs ++ y ∷ ys)) (x ∷ firsts_from (fs ++ m ∷ ms) (xs ++ y ∷ ys))
        ≡ cond b (firsts_from fs xs) (x ∷ firsts_from fs xs) ++ y ∷ firsts_from ms ys
    by true u = u
    by false u = rw u

-- values past the last mark are not looked at
firsts_from_end : (fs xs ys : List ℕ) → length fs ≡ length xs → firsts_from fs (xs ++ ys) ≡ firsts_from fs xs
unfolding firsts_from
firsts_from_end [] xs ys e = refl
firsts_from_end (f ∷ fs) [] ys e = absurd (omega arith)
firsts_from_end (f ∷ fs) (x ∷ xs) ys e = rw (firsts_from_end fs xs ys (omega arith))

-- as many values stand before the cut as marks, and as many behind it
pub firsts-cut : (fs bs xs ys : List ℕ) → Opening bs → length fs ≡ length xs → length bs ≡ length ys
    → group_firsts (fs ++ bs) (xs ++ ys) ≡ group_firsts fs xs ++ group_firsts bs ys
unfolding group_firsts
firsts-cut [] bs [] ys o e g = refl
firsts-cut [] bs (x ∷ xs) ys o e g = absurd (omega arith)
firsts-cut (f ∷ fs) bs [] ys o e g = absurd (omega arith)
firsts-cut (f ∷ fs) [] (x ∷ xs) ys o e g =
    rw (append-nil fs, append-nil (firsts_from fs xs), firsts_from_end fs xs ys (omega arith))
firsts-cut (f ∷ fs) (m ∷ ms) (x ∷ xs) [] o e g = absurd (omega arith)
firsts-cut (f ∷ fs) (m ∷ ms) (x ∷ xs) (y ∷ ys) (opens z) e g = rw (firsts_from_lem fs xs m ms y ys z (omega arith))

-- ---- the count and the numbers

-- an item that opens a group
pub opened_new : (c m : ℕ) → (m ≡ 0 → ⊥) → opened c m ≡ c + 1
unfolding opened
opened_new c m z = rw (ne_eqb m 0 z)

-- an item that continues the open group
pub opened_same : (c m : ℕ) → 1 ≤ c → m ≡ 0 → opened c m ≡ c
unfolding opened
opened_same c m h e = let z : c ≡ 0 → ⊥ = λ q. omega arith in rw (eq-eqb m 0 e, ne_eqb c 0 z)

-- where a group is open, c groups more before it change nothing but the number
opened_shift : (c k m : ℕ) → 1 ≤ k → opened (c + k) m ≡ c + opened k m
unfolding opened
opened_shift c k m h = by (eqb m 0) (eqb (c + k) 0) (eqb k 0) refl refl
  where
    by : (a u v : Bool) → eqb (c + k) 0 ≡ u → eqb k 0 ≡ v → cond a (cond u 1 (c + k)) (c + k + 1) ≡ c + cond a (cond v 1 k) (k + 1)
    by true true v e g = absurd (omega (arith, eqb-true (c + k) 0 e))
    by true false true e g = absurd (omega (arith, eqb-true k 0 g))
    by true false false e g = refl
    by false u v e g = omega arith

after_shift : (c k : ℕ) (ms : List ℕ) → 1 ≤ k → end_state opened (c + k) ms ≡ c + end_state opened k ms
after_shift c k [] h = simp after_none
after_shift c k (m ∷ ms) h = simp after_first (rw (opened_shift c k m h) (after_shift c (opened k m) ms (opened_bounds k m).1.0))

numbers_moved : (c k : ℕ) (ms : List ℕ) → 1 ≤ k → scan opened number_by_mark (c + k) ms ≡ map (λ (j : ℕ). c + j) (scan opened number_by_mark k ms)
numbers_moved c k [] h = simp scan_none
numbers_moved c k (m ∷ ms) h =
    let e : opened (c + k) m ≡ c + opened k m = opened_shift c k m h in
    let d : opened (c + k) m - 1 ≡ c + (opened k m - 1) = omega (arith, e, (opened_bounds k m).1.0) in
    simp scan_first (rw (d, e, numbers_moved c (opened k m) ms (opened_bounds k m).1.0))

pub count-cut : (fs bs : List ℕ) → Opening bs → group_count (fs ++ bs) ≡ group_count fs + group_count bs
unfolding group_count
count-cut fs [] o = rw (append-nil fs, after_none opened 0) (omega arith)
count-cut fs (m ∷ ms) (opens z) =
    let c : ℕ = end_state opened 0 fs in
    rw (after_append opened 0 fs (m ∷ ms), after_first opened c m ms, after_first opened 0 m ms, opened_new c m z, opened_new 0 m z)
    (after_shift c 1 ms (omega arith))

-- the back's numbers go on where the front's end
pub numbers-cut : (fs bs : List ℕ) → Opening bs → group_numbers (fs ++ bs) ≡ group_numbers fs ++ map (λ (j : ℕ). group_count fs + j) (group_numbers bs)
unfolding group_numbers group_count
numbers-cut fs [] o = rw (scan_none opened number_by_mark 0, append-nil fs, append-nil (scan opened number_by_mark 0 fs))
numbers-cut fs (m ∷ ms) (opens z) =
    let c : ℕ = end_state opened 0 fs in
    rw (scan-append opened number_by_mark 0 fs (m ∷ ms), scan_first opened number_by_mark c m ms, scan_first opened number_by_mark 0 m ms)
    (rw (opened_new c m z, opened_new 0 m z, numbers_moved c 1 ms (omega arith), head c))
  where
    head : (c : ℕ) → c + 1 - 1 ≡ c + (1 - 1)
    head c = omega arith

-- ---- the places

place_new : (p m : ℕ) → (m ≡ 0 → ⊥) → place_by_mark p m ≡ 0
unfolding place_by_mark
place_new p m z = rw (ne_eqb m 0 z)

pub places-cut : (fs bs : List ℕ) → Opening bs → group_places (fs ++ bs) ≡ group_places fs ++ group_places bs
unfolding group_places
places-cut fs [] o =
    rw (append-nil fs, scan_none (λ p m. place_by_mark p m + 1) place_by_mark 0, append-nil (scan (λ p m. place_by_mark p m + 1) place_by_mark 0 fs))
places-cut fs (m ∷ ms) (opens z) =
    let p : ℕ = end_state (λ p m. place_by_mark p m + 1) 0 fs in
    rw (scan-append (λ p m. place_by_mark p m + 1) place_by_mark 0 fs (m ∷ ms)) (simp scan_first (rw (place_new p m z, place_new 0 m z)))
