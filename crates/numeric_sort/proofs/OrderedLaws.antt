-- The laws of `ordered`. To exchange two values changes nothing of it, since to put v in the place of w is to insert v and undo the insertion of w; an
-- ascending list is ordered.
use mathlib.Core.Path.{◌≡◌, refl, sym, ap, ◌∙◌, subst}
use mathlib.Core.Logic.{⊎_elim}
use mathlib.Core.List.{List, [], ◌∷◌}
use Prim.Native.Nat.{ℕ, zero, suc, ◌<◌}
use native.Mathlib.Nat.{le_of_suc-le-suc, not-suc-le-zero}
use native.Mathlib.Omega.{arith}
use lib.Dec.{T}
use lib.ListN.{length, get_or, set}
use lib.Seq.{lt-length-set, get_or-set_same, get_or-set_other}
use lib.Ieee.{Float, nan, fits, binary64}
use Rattle.numeric.proofs.Values.{Number}
use Rattle.numeric_sort.specs.Ordered.{insert, ordered, AllFinite}
use Rattle.numeric.specs.TotalOrder.{total_order}
use Rattle.std.specs.List.{swap}
use Rattle.std.proofs.lemmas.Bool.{cases_eq}
use Rattle.std.proofs.lemmas.List.Edits.{swap_is}
use Rattle.numeric_sort.proofs.InsertLaws.{rank_le, Numbers, none, also, numbers-insert, length-insert, insert_here, insert_commute, insert_undo}

-- ---- numbers by their places

pub number_at : {xs : List Float} (i : ℕ) → Numbers xs → i < length xs → Number (get_or xs i nan)
number_at i none h = absurd (not-suc-le-zero h)
number_at zero (also p n) h = p
number_at (suc i) (also p n) h = number_at i n (le_of_suc-le-suc h)

numbers_of : (xs : List Float) → ((i : ℕ) → i < length xs → Number (get_or xs i nan)) → Numbers xs
numbers_of [] f = none
numbers_of (x ∷ xs) f = also (f zero (omega arith)) (numbers_of xs (λ i h. f (suc i) (omega arith)))

-- the finite values of a slice of f64
pub slice_numbers : {xs : List Float} → AllFinite xs → ((i : ℕ) → T (fits binary64 (get_or xs i nan))) → Numbers xs
slice_numbers {xs} a f = numbers_of xs (λ i h. record { is_finite = a.each i h; is_held = f i })

numbers-set : {xs : List Float} (i : ℕ) {v : Float} → Numbers xs → Number v → Numbers (set xs i v)
numbers-set i none q = none
numbers-set zero (also p n) q = also q n
numbers-set (suc i) (also p n) q = also p (numbers-set i n q)

-- ---- ordered

-- fewer than two values are in order
pub ordered-few : (xs : List Float) → length xs < 2 → ordered xs ≡ xs
unfolding ordered insert
ordered-few [] h = refl
ordered-few (x ∷ []) h = refl
ordered-few (x ∷ y ∷ xs) h = absurd (omega arith)

-- the same, by a name that an attribute can have: for a `sort` that leaves such values be
pub ruleset few = (ordered-few)

pub length-ordered : (xs : List Float) → length (ordered xs) ≡ length xs
unfolding ordered
length-ordered [] = refl
length-ordered (x ∷ xs) = length-insert x (ordered xs) ∙ ap suc (length-ordered xs)

pub numbers-ordered : {xs : List Float} → Numbers xs → Numbers (ordered xs)
unfolding ordered
numbers-ordered none = none
numbers-ordered (also p n) = numbers-insert p (numbers-ordered n)

-- v in the place of another value
replaced : {xs : List Float} {v : Float} (i : ℕ) → Numbers xs → Number v → i < length xs
    → insert (get_or xs i nan) (ordered (set xs i v)) ≡ insert v (ordered xs)
unfolding ordered
replaced i none q h = absurd (not-suc-le-zero h)
replaced zero (also p n) q h = insert_commute p q (numbers-ordered n)
replaced {v} (suc i) (also {x} {xs} p n) q h =
    let k : i < length xs = le_of_suc-le-suc h in
    insert_commute (number_at i n k) p (numbers-ordered (numbers-set i n q)) ∙ ap (insert x) (replaced i n q k) ∙ insert_commute p q (numbers-ordered n)

module _ (i j : ℕ) {xs : List Float} (n : Numbers xs) (h : i < length xs) (k : j < length xs) where
  pub numbers-swap : Numbers (swap xs i j)
  numbers-swap = subst Numbers (swap_is xs i j nan h k) (numbers-set j (numbers-set i n (number_at j n k)) (number_at i n h))

  -- an exchange: b in the place of a, and a in the place of b
  pub ordered-swap : ordered (swap xs i j) ≡ ordered xs
  ordered-swap =
      let a : Float = get_or xs i nan in
      let b : Float = get_or xs j nan in
      let ys : List Float = set xs i b in
      let m : Numbers ys = numbers-set i n (number_at j n k) in
      let e : get_or ys j nan ≡ b = ⊎_elim
      (λ e. cc (get_or-set_same xs i b nan h))
      (λ d. get_or-set_other xs i j b nan d)
      (cases_eq j i) in
      let r : insert (get_or ys j nan) (ordered (set ys j a)) ≡ insert a (ordered ys) = replaced j m (number_at i n h) (lt-length-set xs i b k) in
      let s : insert b (ordered (set ys j a)) ≡ insert b (ordered xs) =
      (rw e at r) ∙ replaced i n (number_at j n k) h in
      ap ordered (sym (swap_is xs i j nan h k))
      ∙ insert_undo (number_at j n k) (numbers-ordered (numbers-set j m (number_at i n h))) (numbers-ordered n) s

-- an ascending list
pub ordered_same : {xs : List Float} → Numbers xs → ((i j : ℕ) → i < j → j < length xs → T (total_order (get_or xs i nan) (get_or xs j nan))) → ordered xs ≡ xs
unfolding ordered insert
ordered_same none f = refl
ordered_same (also p none) f = refl
ordered_same (also {x} p (also {x = y} {xs = ys} q n)) f =
    ap (insert x) (ordered_same (also q n) (λ i j h k. f (suc i) (suc j) (omega arith) (omega arith)))
    ∙ insert_here p q ys (rank_le p q (f 0 1 (omega arith) (omega arith)))
