-- Group numbers, cut in two: the front's are below a number c, and the back's are c more than if the list began there. A list of marks
-- can be cut before each group but the first.
use mathlib.Core.Path.{◌≡◌, refl, sym, ap, ◌∙◌}
use mathlib.Core.List.{List, [], ◌∷◌, ◌++◌, map}
use mathlib.Core.Bool.{Bool, true, false}
use Prim.Native.Nat.{ℕ, zero, suc, ◌+◌, ◌-◌, ◌≤◌, ◌<◌}
use native.Mathlib.Omega.{arith}
use lib.Dec.{eqb}
use lib.ListN.{length, get_or, length-append, get_or-append, length-map}
use lib.Seq.{get_or-append-add}
use borrow.Author.Tests.{eq-eqb, ne_eqb, eqb-true, eqb-false}
use Rattle.lent.specs.Scan.{end_state, gathered}
use Rattle.lent.specs.passes.Bounds.{AllBelow}
use Rattle.grouping_marks.specs.Marks.{opened, group_count, group_numbers}
use Rattle.std.proofs.lemmas.List.{get_or-map}
use Rattle.lent.proofs.FillLaws.{length-gathered, get_or-gathered}
use Rattle.grouping_marks.proofs.MarksLaws.{opened_bounds, opened_first, length-numbers, numbers-below}
use Rattle.grouping_marks.proofs.CutLaws.{Opening, nothing_left, opens, opened_new, opened_same, numbers-cut}
use Rattle.lent.proofs.WalkLaws.{after_none, after_first}
use Rattle.lent.proofs.TableLaws.{gathered-append, gathered_front, gathered-back, gathered_moved}

pub below-numbers : (marks : List ℕ) → AllBelow (group_numbers marks) (group_count marks)
below-numbers marks i h = numbers-below marks i (omega (arith, length-numbers marks))

pub below-gathered : (table idx : List ℕ) (n : ℕ) → AllBelow table n → AllBelow idx (length table) → AllBelow (gathered table idx) n
below-gathered table idx n b c i h =
    let l : i < length idx = omega (arith, length-gathered table idx) in
    rw (get_or-gathered table idx i l) (b (get_or idx i 0) (c i l))

-- numbers of groups, cut after `at` items and c groups; `back` are the numbers behind the cut, counted from there
pub record Split (xs : List ℕ) (at c : ℕ) (back : List ℕ) : Type 0 where
  pub front : List ℕ
  pub whole : xs ≡ front ++ map (λ (j : ℕ). c + j) back
  pub size : length front ≡ at
  pub below : AllBelow front c

pub split_numbers : (fs bs : List ℕ) → Opening bs → Split (group_numbers (fs ++ bs)) (length fs) (group_count fs) (group_numbers bs)
split_numbers fs bs o = record { front = group_numbers fs; whole = numbers-cut fs bs o; size = length-numbers fs; below = below-numbers fs }

pub split_length : {xs : List ℕ} {at c : ℕ} {back : List ℕ} → Split xs at c back → length xs ≡ at + length back
split_length {xs} {at} {c} {back} s =
    omega (arith, ap length s.whole, length-append s.front (map (λ (j : ℕ). c + j) back), length-map back (λ (j : ℕ). c + j), s.size)

-- an entry behind the cut
pub split_at : {xs : List ℕ} {at c : ℕ} {back : List ℕ} → Split xs at c back → (j : ℕ) → j < length back → get_or xs (at + j) 0 ≡ c + get_or back j 0
split_at {xs} {at} {c} {back} s j h =
    ap (λ (l : List ℕ). get_or l (at + j) 0) s.whole
    ∙ ap (λ (k : ℕ). get_or (s.front ++ map (λ (i : ℕ). c + i) back) (k + j) 0) (sym s.size)
    ∙ get_or-append-add s.front (map (λ (i : ℕ). c + i) back) j 0
    ∙ get_or-map (λ (i : ℕ). c + i) back j 0 0 h

-- and before it
pub split_before : {xs : List ℕ} {at c : ℕ} {back : List ℕ} → Split xs at c back → (i : ℕ) → i < at → get_or xs i 0 < c
split_before {xs} {at} {c} {back} s i h =
    let l : i < length s.front = omega (arith, s.size) in
    rw (s.whole, get_or-append s.front (map (λ (j : ℕ). c + j) back) 0 i l) (s.below i l)

-- ---- looked up in a table that is cut at the same group

-- a table of the next level's numbers
pub split_gathered : {idx table : List ℕ} {at c d : ℕ} {back tail : List ℕ} → Split idx at c back → Split table c d tail → AllBelow back (length tail)
    → Split (gathered table idx) at d (gathered tail back)
split_gathered {idx} {table} {at} {c} {d} {back} {tail} s t b = record {
  front = gathered t.front s.front;
  whole =
      (λ i. gathered (t.whole i) (s.whole i))
      ∙ gathered-append (t.front ++ map (λ (j : ℕ). d + j) tail) s.front (map (λ (j : ℕ). c + j) back)
      ∙ (λ i. gathered_front t.front (map (λ (j : ℕ). d + j) tail) s.front inside i
      ++ gathered-back t.front (map (λ (j : ℕ). d + j) tail) back c t.size i)
      ∙ ap (λ (l : List ℕ). gathered t.front s.front ++ l) (gathered_moved tail back d b);
  size = length-gathered t.front s.front ∙ s.size;
  below = below-gathered t.front s.front d t.below inside;
}
  where
    inside : AllBelow s.front (length t.front)
    inside i h = rw t.size (s.below i h)

-- a table of anything: behind the cut, what its back has
pub split_looked : {idx : List ℕ} {at c : ℕ} {back : List ℕ} → Split idx at c back → (front tail : List ℕ) → length front ≡ c → (j : ℕ) → j < length back
    → get_or (gathered (front ++ tail) idx) (at + j) 0 ≡ get_or tail (get_or back j 0) 0
split_looked {idx} {at} {c} {back} s front tail e j h =
    get_or-gathered (front ++ tail) idx (at + j) (omega (arith, split_length s))
    ∙ ap (λ (k : ℕ). get_or (front ++ tail) k 0) (split_at s j h)
    ∙ ap (λ (k : ℕ). get_or (front ++ tail) (k + get_or back j 0) 0) (sym e)
    ∙ get_or-append-add front tail (get_or back j 0) 0

-- ---- whether an item behind the cut is first of its group: its number is not that of the item before

eqb_moved : (c x y : ℕ) → eqb (c + x) (c + y) ≡ eqb x y
eqb_moved c x y = by (eqb x y) refl
  where
    by : (b : Bool) → eqb x y ≡ b → eqb (c + x) (c + y) ≡ b
    by true e = let q : x ≡ y = eqb-true x y e in eq-eqb (c + x) (c + y) (omega arith)
    by false e = let q : x ≡ y → ⊥ = eqb-false x y e in let r : c + x ≡ c + y → ⊥ = λ z. q (omega arith) in ne_eqb (c + x) (c + y) r

-- whether item j behind the cut continues the group of the item before it
unfoldable pub continues_back : List ℕ → ℕ → Bool
continues_back back zero = false
continues_back back (suc j) = eqb (get_or back (suc j) 0) (get_or back j 0)

pub split_continues : {xs : List ℕ} {at c : ℕ} {back : List ℕ} → Split xs at c back → 0 < at → (j : ℕ) → j < length back
    → eqb (get_or xs (at + j) 0) (get_or xs (at + j - 1) 0) ≡ continues_back back j
unfolding continues_back
split_continues {xs} {at} {c} {back} s l zero h =
    let q : get_or xs (at + 0) 0 ≡ get_or xs (at + 0 - 1) 0 → ⊥ = λ e. omega (arith, split_at s 0 h, split_before s (at + 0 - 1) (omega arith)) in
    ne_eqb (get_or xs (at + 0) 0) (get_or xs (at + 0 - 1) 0) q
split_continues {xs} {at} {c} {back} s l (suc j) h =
    let k : at + suc j - 1 ≡ at + j = omega arith in
    (λ i. eqb (split_at s (suc j) h i) (get_or xs (k i) 0))
    ∙ ap (λ (y : ℕ). eqb (c + get_or back (suc j) 0) y) (split_at s j (omega arith))
    ∙ eqb_moved c (get_or back (suc j) 0) (get_or back j 0)

-- ---- a cut before a group

-- `marks` cut after q groups
pub record CutAt (marks : List ℕ) (q : ℕ) : Type 0 where
  pub front : List ℕ
  pub back : List ℕ
  pub whole : marks ≡ front ++ back
  pub count : group_count front ≡ q
  pub opening : Opening back

-- the same from a state in which c groups are open already
record CutFrom (c : ℕ) (marks : List ℕ) (q : ℕ) : Type 0 where
  front : List ℕ
  back : List ℕ
  whole : marks ≡ front ++ back
  count : end_state opened c front ≡ q
  opening : Opening back

cut-later : (c : ℕ) (m : ℕ) (ms : List ℕ) (q : ℕ) → CutFrom (opened c m) ms q → CutFrom c (m ∷ ms) q
cut-later c m ms q x = record {
  front = m ∷ x.front;
  back = x.back;
  whole = rw x.whole;
  count = after_first opened c m x.front ∙ x.count;
  opening = x.opening;
}

cut_from : (c : ℕ) (marks : List ℕ) (q : ℕ) → 1 ≤ c → c ≤ q → q ≤ end_state opened c marks → CutFrom c marks q
cut_from c [] q z l h = record { front = []; back = []; whole = refl; count = omega (arith, after_none opened c); opening = nothing_left }
cut_from c (m ∷ ms) q z l h =
    let k : q ≤ end_state opened (opened c m) ms = rw after_first at h in
    by (eqb m 0) (eqb q c) refl refl (λ u. cut-later c m ms q (cut_from (opened c m) ms q (opened_bounds c m).1.0 u k))
  where
    by : (a b : Bool) → eqb m 0 ≡ a → eqb q c ≡ b → (opened c m ≤ q → CutFrom c (m ∷ ms) q) → CutFrom c (m ∷ ms) q
    by true b e f go = go (omega (arith, opened_same c m z (eqb-true m 0 e)))
    by false true e f go =
        let n = after_none opened c ∙ sym (eqb-true q c f) in
        record { front = []; back = m ∷ ms; whole = refl; count = n; opening = opens (eqb-false m 0 e) }
    by false false e f go = let n : q ≡ c → ⊥ = eqb-false q c f in go (omega (arith, opened_new c m (eqb-false m 0 e)))

pub cut_at : (marks : List ℕ) (q : ℕ) → 0 < q → q ≤ group_count marks → CutAt marks q
unfolding group_count
cut_at [] q z h = absurd (omega (arith, after_none opened 0))
cut_at (m ∷ ms) q z h =
    let x = cut-later 0 m ms q (cut_from (opened 0 m) ms q (opened_bounds 0 m).1.0 (omega (arith, opened_first m)) (rw after_first at h)) in
    record { front = x.front; back = x.back; whole = x.whole; count = x.count; opening = x.opening }
