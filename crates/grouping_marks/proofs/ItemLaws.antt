-- Each group's first item and its last. One walk over the marks says all of both: where item x is the open group's last so far, the next item, suc x, is its
-- last or the first of the next group.
use mathlib.Core.Path.{◌≡◌, refl, sym, ap, ◌∙◌}
use mathlib.Core.Bool.{cond, not}
use mathlib.Core.List.{List, [], ◌∷◌, ◌++◌, map, append_assoc}
use Prim.Native.Nat.{ℕ, zero, suc, ◌+◌, ◌-◌, ◌≤◌, ◌<◌}
use native.Mathlib.Omega.{arith}
use borrow.Author.Tests.{eq-eqb, ne_eqb}
use lib.Dec.{eqb, eqb-suc-zero}
use lib.ListN.{length, get_or, get_or-append, length-append, length-map}
use lib.Seq.{get_or_at, get_or-append-add, ext_get_or}
use Rattle.std.proofs.lemmas.List.{get_or-map}
use Rattle.lent.specs.Scan.{scan, tabulate}
use Rattle.lent.proofs.FillLaws.{length-tabulate, get_or-tabulate, tabulate_none, tabulate-first, tabulate-agree}
use Rattle.lent.proofs.WalkLaws.{scan_first}
use Rattle.grouping_marks.specs.Marks.{opened, number_by_mark, group_count, group_numbers, sizes_from, group_sizes, firsts_from, group_firsts}
use Rattle.grouping_marks.specs.Marks.{lasts_from, group_lasts, items, first_items, last_items}
use Rattle.grouping_marks.proofs.MarksLaws.{opened_first, length-firsts}
use Rattle.grouping_marks.proofs.CutLaws.{opened_new, opened_same}

-- ---- the items, one after the other

unfoldable pub upward : ℕ → ℕ → List ℕ
upward i zero = []
upward i (suc n) = i ∷ upward (suc i) n

from_upward : (n i : ℕ) → tabulate (λ j. i + j) n ≡ upward i n
unfolding upward
from_upward zero i = tabulate_none (λ j. i + j)
from_upward (suc n) i =
    tabulate-first (λ j. i + j) n
    ∙ (λ t. start t ∷ (tabulate-agree (λ j. i + suc j) (λ j. suc i + j) n (λ j h. omega arith) ∙ from_upward n (suc i)) t)
  where
    start : i + 0 ≡ i
    start = omega arith

items_upward : (marks : List ℕ) → items marks ≡ upward 0 (length marks)
items_upward marks = tabulate-agree (λ (i : ℕ). i) (λ j. 0 + j) (length marks) (λ j h. omega arith) ∙ from_upward (length marks) 0

-- ---- what is left of the lists, where c groups are closed and item x is the last so far

abbrev pub numbers_left : ℕ → List ℕ → List ℕ
numbers_left c ms = scan opened number_by_mark (suc c) ms

abbrev pub firsts_left : ℕ → List ℕ → List ℕ
firsts_left x ms = firsts_from ms (upward (suc x) (length ms))

abbrev pub lasts_left : ℕ → List ℕ → List ℕ
lasts_left x ms = lasts_from x ms (upward (suc x) (length ms))

pub numbers_same : (c : ℕ) (ms : List ℕ) → numbers_left c (0 ∷ ms) ≡ c ∷ numbers_left c ms
numbers_same c ms = rw (scan_first opened number_by_mark (suc c) 0 ms, opened_same (suc c) 0 (omega arith) refl) (ap (λ n. n ∷ numbers_left c ms) here)
  where
    here : suc c - 1 ≡ c
    here = omega arith

pub numbers_new : (c m : ℕ) (ms : List ℕ) → numbers_left c (suc m ∷ ms) ≡ suc c ∷ numbers_left (suc c) ms
numbers_new c m ms =
    let new : suc m ≡ 0 → ⊥ = λ e. omega arith in
    rw (scan_first opened number_by_mark (suc c) (suc m) ms, opened_new (suc c) (suc m) new) (λ t. here t ∷ scan opened number_by_mark (after t) ms)
  where
    here : suc c + 1 - 1 ≡ suc c
    here = omega arith

    after : suc c + 1 ≡ suc (suc c)
    after = omega arith

pub numbers_start : (m : ℕ) (ms : List ℕ) → group_numbers (m ∷ ms) ≡ 0 ∷ numbers_left 0 ms
unfolding group_numbers
numbers_start m ms = rw (scan_first opened number_by_mark 0 m ms, opened_first m) refl

first_items_none : first_items [] ≡ []
unfolding first_items group_firsts
first_items_none = refl

pub last_items_none : last_items [] ≡ []
unfolding last_items group_lasts
last_items_none = refl

pub first_items_start : (m : ℕ) (ms : List ℕ) → first_items (m ∷ ms) ≡ 0 ∷ firsts_left 0 ms
unfolding first_items group_firsts upward
first_items_start m ms = ap (group_firsts (m ∷ ms)) (items_upward (m ∷ ms))

pub last_items_start : (m : ℕ) (ms : List ℕ) → last_items (m ∷ ms) ≡ lasts_left 0 ms
unfolding last_items group_lasts upward
last_items_start m ms = ap (group_lasts (m ∷ ms)) (items_upward (m ∷ ms))

pub lasts_none : (x : ℕ) → lasts_left x [] ≡ x ∷ []
unfolding lasts_from
lasts_none x = refl

pub lasts_same : (x : ℕ) (ms : List ℕ) → lasts_left x (0 ∷ ms) ≡ lasts_left (suc x) ms
unfolding lasts_from upward
lasts_same x ms = refl

pub lasts_new : (x m : ℕ) (ms : List ℕ) → lasts_left x (suc m ∷ ms) ≡ x ∷ lasts_left (suc x) ms
unfolding lasts_from upward
lasts_new x m ms = rw (eqb-suc-zero m) refl

firsts_none : (x : ℕ) → firsts_left x [] ≡ []
unfolding firsts_from
firsts_none x = refl

firsts_same : (x : ℕ) (ms : List ℕ) → firsts_left x (0 ∷ ms) ≡ firsts_left (suc x) ms
unfolding firsts_from upward
firsts_same x ms = refl

firsts_new : (x m : ℕ) (ms : List ℕ) → firsts_left x (suc m ∷ ms) ≡ suc x ∷ firsts_left (suc x) ms
unfolding firsts_from upward
firsts_new x m ms = rw (eqb-suc-zero m) refl

-- ---- each group begins behind the last item of the one before

behind_left : (x : ℕ) (ms : List ℕ) → map suc (lasts_left x ms) ≡ firsts_left x ms ++ (suc x + length ms) ∷ []
unfolding lasts_from firsts_from
behind_left x [] = ap (λ (n : ℕ). n ∷ []) (omega arith)
behind_left x (zero ∷ ms) =
    rw (lasts_same x ms, firsts_same x ms) (behind_left (suc x) ms ∙ ap (λ (n : ℕ). firsts_left (suc x) ms ++ n ∷ []) (omega arith))
behind_left x (suc m ∷ ms) =
    rw (lasts_new x m ms, firsts_new x m ms)
    (ap (λ (l : List ℕ). suc x ∷ l) (behind_left (suc x) ms ∙ ap (λ (n : ℕ). firsts_left (suc x) ms ++ n ∷ []) (omega arith)))

-- the first group begins with item 0, and behind the last one no item is left
pub firsts_behind : (marks : List ℕ) → 0 ∷ map suc (last_items marks) ≡ first_items marks ++ length marks ∷ []
firsts_behind [] = rw (last_items_none, first_items_none) refl
firsts_behind (m ∷ ms) = rw (last_items_start m ms, first_items_start m ms) (ap (λ (l : List ℕ). 0 ∷ l) (behind_left 0 ms ∙ last))
  where
    last : firsts_left 0 ms ++ (1 + length ms) ∷ [] ≡ firsts_left 0 ms ++ suc (length ms) ∷ []
    last = ap (λ (n : ℕ). firsts_left 0 ms ++ n ∷ []) (omega arith)

-- ---- how many there are

pub length-first_items : (marks : List ℕ) → length (first_items marks) ≡ group_count marks
unfolding first_items
length-first_items marks = length-firsts marks (items marks) (omega (arith, length-tabulate (λ (i : ℕ). i) (length marks)))

pub length-last_items : (marks : List ℕ) → length (last_items marks) ≡ group_count marks
length-last_items marks =
    omega (
      arith,
      ap length (firsts_behind marks),
      length-map (last_items marks) suc,
      length-append (first_items marks) (length marks ∷ []),
      length-first_items marks,
    )

-- ---- a group's first item by the last of the group before it

pub next_first : (marks : List ℕ) (j : ℕ) → suc j < group_count marks → get_or (first_items marks) (suc j) 0 ≡ get_or (last_items marks) j 0 + 1
next_first marks j h =
    sym (get_or-append (first_items marks) (length marks ∷ []) 0 (suc j) (omega (arith, length-first_items marks)))
    ∙ ap (λ (l : List ℕ). get_or l (suc j) 0) (sym (firsts_behind marks))
    ∙ get_or-map suc (last_items marks) j 0 0 (omega (arith, length-last_items marks))
    ∙ omega arith

pub first_zero : (marks : List ℕ) → get_or (first_items marks) 0 0 ≡ 0
first_zero [] = ap (λ (l : List ℕ). get_or l 0 0) first_items_none
first_zero (m ∷ ms) = ap (λ (l : List ℕ). get_or l 0 0) (first_items_start m ms)

abbrev pub first_by_last : List ℕ → ℕ → ℕ
first_by_last lasts j = cond (eqb j 0) 0 (get_or lasts (j - 1) 0 + 1)

pub firsts_by_lasts : (marks : List ℕ) → tabulate (first_by_last (last_items marks)) (length (last_items marks)) ≡ first_items marks
firsts_by_lasts marks =
    let few = length-tabulate (first_by_last (last_items marks)) (length (last_items marks)) in
    ext_get_or 0 _ _ (few ∙ length-last_items marks ∙ sym (length-first_items marks))
    (λ j h.
    let inside : j < length (last_items marks) = omega (arith, few) in
    get_or-tabulate (first_by_last (last_items marks)) (length (last_items marks)) j 0 inside ∙ at j (omega (arith, inside, length-last_items marks)))
  where
    at : (j : ℕ) → j < group_count marks → first_by_last (last_items marks) j ≡ get_or (first_items marks) j 0
    at zero h = sym (first_zero marks)
    at (suc j) h =
        rw (eqb-suc-zero j) (ap (λ (n : ℕ). get_or (last_items marks) n 0 + 1) (omega arith) ∙ sym (next_first marks j h))

-- ---- they are items

lasts_below : (x : ℕ) (ms : List ℕ) (j : ℕ) → get_or (lasts_left x ms) j 0 ≤ x + length ms
lasts_below x [] zero = rw (lasts_none x) (omega arith)
lasts_below x [] (suc j) = rw (lasts_none x) (omega arith)
lasts_below x (zero ∷ ms) j = rw (lasts_same x ms) (omega (arith, lasts_below (suc x) ms j))
lasts_below x (suc m ∷ ms) zero = rw (lasts_new x m ms) (omega arith)
lasts_below x (suc m ∷ ms) (suc j) = rw (lasts_new x m ms) (omega (arith, lasts_below (suc x) ms j))

firsts_below : (x : ℕ) (ms : List ℕ) (j : ℕ) → get_or (firsts_left x ms) j 0 ≤ x + length ms
firsts_below x [] j = rw (firsts_none x) (omega arith)
firsts_below x (zero ∷ ms) j = rw (firsts_same x ms) (omega (arith, firsts_below (suc x) ms j))
firsts_below x (suc m ∷ ms) zero = rw (firsts_new x m ms) (omega arith)
firsts_below x (suc m ∷ ms) (suc j) = rw (firsts_new x m ms) (omega (arith, firsts_below (suc x) ms j))

pub first-below : (marks : List ℕ) (j : ℕ) → j < group_count marks → get_or (first_items marks) j 0 < length marks
first-below [] j h = absurd (omega (arith, h, length-first_items [], ap length first_items_none))
first-below (m ∷ ms) zero h = rw (first_zero (m ∷ ms)) (omega arith)
first-below (m ∷ ms) (suc j) h = rw (first_items_start m ms) (omega (arith, firsts_below 0 ms j))

pub last-below : (marks : List ℕ) (j : ℕ) → j < group_count marks → get_or (last_items marks) j 0 < length marks
last-below [] j h = absurd (omega (arith, h, length-last_items [], ap length last_items_none))
last-below (m ∷ ms) j h = rw (last_items_start m ms) (omega (arith, lasts_below 0 ms j))

-- ---- a group's first item, its size and its last

sizes_none : (p : ℕ) → sizes_from p [] ≡ p ∷ []
unfolding sizes_from
sizes_none p = refl

sizes_same : (p : ℕ) (ms : List ℕ) → sizes_from p (0 ∷ ms) ≡ sizes_from (p + 1) ms
unfolding sizes_from
sizes_same p ms = refl

sizes_new : (p m : ℕ) (ms : List ℕ) → sizes_from p (suc m ∷ ms) ≡ p ∷ sizes_from 1 ms
unfolding sizes_from
sizes_new p m ms = rw (eqb-suc-zero m) refl

sized_left : (f p x : ℕ) (ms : List ℕ) (j : ℕ) → suc x ≡ f + p → j < length (lasts_left x ms)
    → get_or (lasts_left x ms) j 0 + 1 ≡ get_or (f ∷ firsts_left x ms) j 0 + get_or (sizes_from p ms) j 0
sized_left f p x [] zero e h = rw (lasts_none x, sizes_none p) (omega (arith, e))
sized_left f p x [] (suc j) e h = absurd (omega (arith, h, ap length (lasts_none x)))
sized_left f p x (zero ∷ ms) j e h =
    rw (lasts_same x ms, firsts_same x ms, sizes_same p ms) (sized_left f (p + 1) (suc x) ms j (omega (arith, e)) (rw (lasts_same x ms) at h))
sized_left f p x (suc m ∷ ms) zero e h = rw (lasts_new x m ms, sizes_new p m ms) (omega (arith, e))
sized_left f p x (suc m ∷ ms) (suc j) e h =
    rw (lasts_new x m ms, firsts_new x m ms, sizes_new p m ms)
    (sized_left (suc x) 1 (suc x) ms j (omega arith) (omega (arith, h, ap length (lasts_new x m ms))))

pub item_size : (marks : List ℕ) (j : ℕ) → j < group_count marks
    → get_or (last_items marks) j 0 + 1 ≡ get_or (first_items marks) j 0 + get_or (group_sizes marks) j 0
unfolding group_sizes
item_size [] j h = absurd (omega (arith, h, length-last_items [], ap length last_items_none))
item_size (m ∷ ms) j h =
    let few : j < length (last_items (m ∷ ms)) = omega (arith, h, length-last_items (m ∷ ms)) in
    rw (last_items_start m ms, first_items_start m ms) (sized_left 0 1 0 ms j (omega arith) (rw (last_items_start m ms) at few))

-- ---- an item is the first of its group exactly where the group's first item is that item

first_left : (done : List ℕ) (c f x : ℕ) (ms : List ℕ) (k : ℕ) → length done ≡ c → f ≤ x → k < length ms
    → eqb (get_or (done ++ f ∷ firsts_left x ms) (get_or (numbers_left c ms) k 0) 0) (suc x + k)
    ≡ not (eqb (get_or (numbers_left c ms) k 0) (get_or (c ∷ numbers_left c ms) k 0))
first_left done c f x [] k l h g = absurd (omega arith)
first_left done c f x (zero ∷ ms) zero l h g =
    let below : f ≡ suc x + 0 → ⊥ = λ e. omega arith in
    rw (numbers_same c ms, firsts_same x ms, get_or_at done f (firsts_left (suc x) ms) 0 c l, ne_eqb f (suc x + 0) below, eq-eqb c c refl) refl
first_left done c f x (zero ∷ ms) (suc k) l h g =
    rw (numbers_same c ms, firsts_same x ms, ← on) (first_left done c f (suc x) ms k l (omega arith) (omega arith))
  where
    on : suc (suc x) + k ≡ suc x + suc k
    on = omega arith
first_left done c f x (suc m ∷ ms) zero l h g =
    let other : suc c ≡ c → ⊥ = λ e. omega arith in
    rw (numbers_new c m ms, firsts_new x m ms, next, eq-eqb (suc x) (suc x + 0) (omega arith), ne_eqb (suc c) c other) refl
  where
    next : get_or (done ++ f ∷ suc x ∷ firsts_left (suc x) ms) (suc c) 0 ≡ suc x
    next =
        ap (λ (n : ℕ). get_or (done ++ f ∷ suc x ∷ firsts_left (suc x) ms) n 0) (omega (arith, l))
        ∙ get_or-append-add done (f ∷ suc x ∷ firsts_left (suc x) ms) 1 0
first_left done c f x (suc m ∷ ms) (suc k) l h g =
    rw (numbers_new c m ms, firsts_new x m ms, ← on, ← append_assoc done (f ∷ []) (suc x ∷ firsts_left (suc x) ms))
    (first_left (done ++ f ∷ []) (suc c) (suc x) (suc x) ms k (omega (arith, length-append done (f ∷ []), l)) (omega arith) (omega arith))
  where
    on : suc (suc x) + k ≡ suc x + suc k
    on = omega arith

-- behind the first item: where its group is not that of the item before it
pub first_where : (marks : List ℕ) (i : ℕ) → suc i < length marks
    → eqb (get_or (first_items marks) (get_or (group_numbers marks) (suc i) 0) 0) (suc i)
    ≡ not (eqb (get_or (group_numbers marks) (suc i) 0) (get_or (group_numbers marks) i 0))
first_where [] i h = absurd (omega arith)
first_where (m ∷ ms) i h =
    rw (first_items_start m ms, numbers_start m ms)
    (ap (λ (n : ℕ). eqb (get_or (0 ∷ firsts_left 0 ms) (get_or (numbers_left 0 ms) i 0) 0) n) (omega arith)
    ∙ first_left [] 0 0 0 ms i refl (omega arith) (omega arith))

pub first_start : (marks : List ℕ) → 0 < length marks → get_or (first_items marks) (get_or (group_numbers marks) 0 0) 0 ≡ 0
first_start [] h = absurd (omega arith)
first_start (m ∷ ms) h = rw (first_items_start m ms, numbers_start m ms) refl

-- ---- a group's last item is one of its own

lasts_above : (x : ℕ) (ms : List ℕ) (j : ℕ) → j < length (lasts_left x ms) → x ≤ get_or (lasts_left x ms) j 0
lasts_above x [] zero h = rw (lasts_none x) (omega arith)
lasts_above x [] (suc j) h = absurd (omega (arith, h, ap length (lasts_none x)))
lasts_above x (zero ∷ ms) j h = rw (lasts_same x ms) (omega (arith, lasts_above (suc x) ms j (rw (lasts_same x ms) at h)))
lasts_above x (suc m ∷ ms) zero h = rw (lasts_new x m ms) (omega arith)
lasts_above x (suc m ∷ ms) (suc j) h =
    rw (lasts_new x m ms) (omega (arith, lasts_above (suc x) ms j (omega (arith, h, ap length (lasts_new x m ms)))))

-- the last item of the group j further on is d items further on
last_left : (c x : ℕ) (ms : List ℕ) (j d : ℕ) → j < length (lasts_left x ms) → get_or (lasts_left x ms) j 0 ≡ x + d
    → get_or (c ∷ numbers_left c ms) d 0 ≡ c + j
last_left c x [] zero d h e = at d (omega (arith, sym e ∙ ap (λ (l : List ℕ). get_or l 0 0) (lasts_none x)))
  where
    at : (d : ℕ) → d ≡ 0 → get_or (c ∷ numbers_left c []) d 0 ≡ c + 0
    at zero e = omega arith
    at (suc d) e = absurd (omega arith)
last_left c x [] (suc j) d h e = absurd (omega (arith, h, ap length (lasts_none x)))
last_left c x (zero ∷ ms) j zero h e =
    absurd (omega (arith, lasts_above (suc x) ms j (rw (lasts_same x ms) at h), rw (lasts_same x ms) at e))
last_left c x (zero ∷ ms) j (suc d) h e =
    rw (numbers_same c ms) (last_left c (suc x) ms j d (rw (lasts_same x ms) at h) (omega (arith, rw (lasts_same x ms) at e)))
last_left c x (suc m ∷ ms) zero zero h e = omega arith
last_left c x (suc m ∷ ms) zero (suc d) h e = absurd (omega (arith, rw (lasts_new x m ms) at e))
last_left c x (suc m ∷ ms) (suc j) zero h e =
    absurd (omega (arith, lasts_above (suc x) ms j (omega (arith, h, ap length (lasts_new x m ms))), rw (lasts_new x m ms) at e))
last_left c x (suc m ∷ ms) (suc j) (suc d) h e =
    rw (numbers_new c m ms)
    (last_left (suc c) (suc x) ms j d (omega (arith, h, ap length (lasts_new x m ms))) (omega (arith, rw (lasts_new x m ms) at e)) ∙ omega arith)

pub last_number : (marks : List ℕ) (j : ℕ) → j < group_count marks → get_or (group_numbers marks) (get_or (last_items marks) j 0) 0 ≡ j
last_number [] j h = absurd (omega (arith, h, length-last_items [], ap length last_items_none))
last_number (m ∷ ms) j h =
    let few : j < length (last_items (m ∷ ms)) = omega (arith, h, length-last_items (m ∷ ms)) in
    rw (numbers_start m ms, last_items_start m ms)
    (last_left 0 0 ms j (get_or (lasts_left 0 ms) j 0) (rw (last_items_start m ms) at few) (omega arith) ∙ omega arith)
