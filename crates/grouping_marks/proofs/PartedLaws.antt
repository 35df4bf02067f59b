-- The items of each group: how many groups there are, the first group and the rest, and what holds of all items. Each is proved of the
-- groups behind an open one.
use mathlib.Core.Path.{◌≡◌, refl, sym, ap, ◌∙◌}
use mathlib.Core.Bool.{Bool, true, false, cond}
use mathlib.Core.List.{List, [], ◌∷◌, ◌++◌, map, append-nil}
use Prim.Native.Nat.{ℕ, zero, suc, ◌+◌, ◌≤◌, ◌<◌}
use native.Mathlib.Nat.{le_refl, le_of_suc-le-suc, not-suc-le-zero}
use native.Mathlib.Omega.{arith}
use lib.Dec.{eqb}
use lib.ListN.{length, take, drop, get_or, replicate, length-append, length-replicate}
use lib.Seq.{append_snoc, drop_at}
use Rattle.grouping_marks.specs.Marks.{group_count, sizes_from, group_sizes, firsts_from, group_firsts}
use Rattle.grouping_marks.specs.Parted.{parted_after, parted}
use Rattle.grouping_marks.proofs.MarksLaws.{length-sizes}

-- ---- how many

after_count : {A : Type 0} (p : ℕ) (group : List A) (marks : List ℕ) (xs : List A) → length marks ≤ length xs
    → length (parted_after group marks xs) ≡ length (sizes_from p marks)
unfolding parted_after sizes_from
after_count p group [] xs h = refl
after_count p group (m ∷ ms) [] h = absurd (not-suc-le-zero h)
after_count p group (m ∷ ms) (x ∷ xs) h =
    go (eqb m 0) (after_count (p + 1) (group ++ (x ∷ [])) ms xs (le_of_suc-le-suc h)) (after_count 1 (x ∷ []) ms xs (le_of_suc-le-suc h))
  where
    go : (b : Bool) → length (parted_after (group ++ (x ∷ [])) ms xs) ≡ length (sizes_from (p + 1) ms)
        → length (parted_after (x ∷ []) ms xs) ≡ length (sizes_from 1 ms)
        → length (cond b (parted_after (group ++ (x ∷ [])) ms xs) (group ∷ parted_after (x ∷ []) ms xs))
        ≡ length (cond b (sizes_from (p + 1) ms) (p ∷ sizes_from 1 ms))
    go true u v = u
    go false u v = ap suc v

-- as many as the marks say
pub length-parted : {A : Type 0} (marks : List ℕ) (xs : List A) → length marks ≤ length xs → length (parted marks xs) ≡ group_count marks
unfolding parted group_sizes
length-parted [] xs h = length-sizes []
length-parted (m ∷ ms) [] h = absurd (not-suc-le-zero h)
length-parted (m ∷ ms) (x ∷ xs) h = after_count 1 (x ∷ []) ms xs (le_of_suc-le-suc h) ∙ length-sizes (m ∷ ms)

-- ---- the first group and the rest

-- the open group ends before marks of which the first, if there is one, is 1
after_open : {A : Type 0} (group : List A) (marks : List ℕ) (xs : List A) → get_or marks 0 1 ≡ 1 → parted_after group marks xs ≡ group ∷ parted marks xs
unfolding parted_after parted
after_open group [] xs o = refl
after_open group (m ∷ ms) [] o = refl
after_open group (m ∷ ms) (x ∷ xs) o = rw (o, parted_after)

after_zeros : {A : Type 0} (group : List A) (k : ℕ) (marks : List ℕ) (xs : List A) → k ≤ length xs → get_or marks 0 1 ≡ 1
    → parted_after group (replicate k 0 ++ marks) xs ≡ (group ++ take k xs) ∷ parted marks (drop k xs)
unfolding parted_after
after_zeros group zero marks xs h o = rw (append-nil group) (after_open group marks xs o)
after_zeros group (suc k) marks [] h o = absurd (not-suc-le-zero h)
after_zeros group (suc k) marks (x ∷ xs) h o =
    rw (after_zeros (group ++ (x ∷ [])) k marks xs (le_of_suc-le-suc h) o, append_snoc group x (take k xs))

-- a mark and k zeros are a group of suc k items, if the next mark is 1 or there is none
pub parted_first : {A : Type 0} (m k : ℕ) (marks : List ℕ) (x : A) (xs : List A) → k ≤ length xs → get_or marks 0 1 ≡ 1
    → parted (m ∷ (replicate k 0 ++ marks)) (x ∷ xs) ≡ (x ∷ take k xs) ∷ parted marks (drop k xs)
unfolding parted
parted_first m k marks x xs h o = after_zeros (x ∷ []) k marks xs h o

-- no marks, no groups
pub parted_none : {A : Type 0} (xs : List A) → parted [] xs ≡ []
unfolding parted
parted_none xs = refl

-- and one group in the count, which is that of any items' groups: here the marks stand for items
pub count_first : (m k : ℕ) (marks : List ℕ) → get_or marks 0 1 ≡ 1 → group_count (m ∷ (replicate k 0 ++ marks)) ≡ 1 + group_count marks
count_first m k marks o =
    let rest : List ℕ = replicate k 0 ++ marks in
    let l : length rest ≡ k + length marks = rw (length-append (replicate k 0) marks, length-replicate {A = ℕ} k 0) in
    let d : drop k rest ≡ marks = drop_at (replicate k 0) marks k (length-replicate k 0) in
    let whole : length (parted (m ∷ rest) (m ∷ rest)) ≡ group_count (m ∷ rest) = length-parted (m ∷ rest) (m ∷ rest) (le_refl _) in
    let first : length (parted (m ∷ rest) (m ∷ rest)) ≡ suc (length (parted marks (drop k rest))) = ap length (parted_first m k marks m rest (omega arith) o) in
    let others : length (parted marks (drop k rest)) ≡ group_count marks =
    rw d (length-parted marks marks (le_refl _)) in
    omega arith

-- ---- what holds of all items

data Every {A : Type 0} (P : A → Type 0) : List A → Type 0 where
  none : Every P []
  more : {x : A} {xs : List A} → P x → Every P xs → Every P (x ∷ xs)

module _ {A : Type 0} {P : A → Type 0} where
  every_of : (xs : List A) (d : A) → ((i : ℕ) → i < length xs → P (get_or xs i d)) → Every P xs
  every_of [] d h = none
  every_of (x ∷ xs) d h = more (h 0 (omega arith)) (every_of xs d (λ i l. h (suc i) (omega arith)))

  every_at : {xs : List A} → Every P xs → (d : A) (i : ℕ) → i < length xs → P (get_or xs i d)
  every_at none d i h = absurd (not-suc-le-zero h)
  every_at (more p e) d zero h = p
  every_at (more p e) d (suc i) h = every_at e d i (le_of_suc-le-suc h)

  every_snoc : {xs : List A} {x : A} → Every P xs → P x → Every P (xs ++ (x ∷ []))
  every_snoc none p = more p none
  every_snoc (more q e) p = more q (every_snoc e p)

  after_every : (group : List A) (marks : List ℕ) (xs : List A) → Every P group → Every P xs → Every (Every P) (parted_after group marks xs)
  unfolding parted_after
  after_every group [] xs g e = more g none
  after_every group (m ∷ ms) [] g e = more g none
  after_every group (m ∷ ms) (x ∷ xs) g (more p e) =
      go (eqb m 0) (after_every (group ++ (x ∷ [])) ms xs (every_snoc g p) e) (after_every (x ∷ []) ms xs (more p none) e)
    where
      go : (b : Bool) → Every (Every P) (parted_after (group ++ (x ∷ [])) ms xs) → Every (Every P) (parted_after (x ∷ []) ms xs)
          → Every (Every P) (cond b (parted_after (group ++ (x ∷ [])) ms xs) (group ∷ parted_after (x ∷ []) ms xs))
      go true u v = u
      go false u v = more g v

  parted_every : (marks : List ℕ) (xs : List A) → Every P xs → Every (Every P) (parted marks xs)
  unfolding parted
  parted_every [] xs e = none
  parted_every (m ∷ ms) [] e = none
  parted_every (m ∷ ms) (x ∷ xs) (more p e) = after_every (x ∷ []) ms xs (more p none) e

-- what holds of every item holds of every item of every group
pub parted_all : {A : Type 0} (P : A → Type 0) (marks : List ℕ) (xs : List A) (d : A) → ((i : ℕ) → i < length xs → P (get_or xs i d))
    → (g i : ℕ) → g < length (parted marks xs) → i < length (get_or (parted marks xs) g []) → P (get_or (get_or (parted marks xs) g []) i d)
parted_all P marks xs d h g i k l = every_at {P = P} (every_at (parted_every marks xs (every_of xs d h)) [] g k) d i l

-- every group has an item
HasItem : {A : Type 0} → List A → Type 0
HasItem xs = 0 < length xs

has_item : {A : Type 0} (x : A) (xs : List A) → HasItem (x ∷ xs)
unfolding HasItem
has_item x xs = omega arith

after_some : {A : Type 0} (x : A) (group : List A) (marks : List ℕ) (xs : List A) → Every HasItem (parted_after (x ∷ group) marks xs)
unfolding parted_after
after_some x group [] xs = more (has_item x group) none
after_some x group (m ∷ ms) [] = more (has_item x group) none
after_some x group (m ∷ ms) (y ∷ ys) = go (eqb m 0) (after_some x (group ++ (y ∷ [])) ms ys) (after_some y [] ms ys)
  where
    go : (b : Bool) → Every HasItem (parted_after (x ∷ (group ++ (y ∷ []))) ms ys) → Every HasItem (parted_after (y ∷ []) ms ys)
        → Every HasItem (cond b (parted_after (x ∷ (group ++ (y ∷ []))) ms ys) ((x ∷ group) ∷ parted_after (y ∷ []) ms ys))
    go true u v = u
    go false u v = more (has_item x group) v

pub parted-some : {A : Type 0} (marks : List ℕ) (xs : List A) (g : ℕ) → g < length (parted marks xs) → 0 < length (get_or (parted marks xs) g [])
unfolding parted HasItem
parted-some [] xs g h = absurd (not-suc-le-zero h)
parted-some (m ∷ ms) [] g h = absurd (not-suc-le-zero h)
parted-some (m ∷ ms) (x ∷ xs) g h = every_at (after_some x [] ms xs) [] g h

-- ---- the first item of each group

abbrev heads : List (List ℕ) → List ℕ
heads groups = map (λ (g : List ℕ). get_or g 0 0) groups

heads_after : (x : ℕ) (group marks xs : List ℕ) → heads (parted_after (x ∷ group) marks xs) ≡ x ∷ firsts_from marks xs
unfolding parted_after firsts_from
heads_after x group [] xs = refl
heads_after x group (m ∷ ms) [] = refl
heads_after x group (m ∷ ms) (y ∷ ys) = by (heads_after x (group ++ (y ∷ [])) ms ys) (heads_after y [] ms ys) (eqb m 0) refl
  where
    by : heads (parted_after (x ∷ (group ++ (y ∷ []))) ms ys) ≡ x ∷ firsts_from ms ys
        → heads (parted_after (y ∷ []) ms ys) ≡ y ∷ firsts_from ms ys
        → (b : Bool) → eqb m 0 ≡ b
        → heads (parted_after (x ∷ group) (m ∷ ms) (y ∷ ys)) ≡ x ∷ firsts_from (m ∷ ms) (y ∷ ys)
    by p q true e = rw e p
    by p q false e = rw (e, q)

pub firsts_heads : (marks xs : List ℕ) → group_firsts marks xs ≡ heads (parted marks xs)
unfolding parted group_firsts
firsts_heads [] xs = refl
firsts_heads (m ∷ ms) [] = refl
firsts_heads (m ∷ ms) (x ∷ xs) = sym (heads_after x [] ms xs)
