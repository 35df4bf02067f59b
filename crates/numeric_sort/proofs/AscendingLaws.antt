-- What `ordered` leaves: the values of the list and no other, each at or before every later one. So to order it again changes nothing. Pieces of an
-- ascending list ascend too.
use mathlib.Core.Path.{◌≡◌, refl, sym, subst}
use mathlib.Core.Logic.{◌⊎◌, inl, inr, ⊎_elim}
use mathlib.Core.Bool.{Bool, true, false, cond}
use mathlib.Core.List.Memᴰ
use mathlib.Core.List.{List, [], ◌∷◌, ◌++◌, Memᴰ}
use Prim.Native.Nat.{ℕ, zero, suc, ◌<◌}
use native.Mathlib.Nat.{le_of_lt, le_of_suc-le-suc, not-suc-le-zero}
use native.Mathlib.Omega.{arith}
use lib.Dec.{T}
use lib.ListN.{length, get_or}
use lib.Ieee.{Float, nan}
use Rattle.numeric.specs.TotalOrder.{total_order}
use Rattle.numeric.proofs.Tests.{le_or_lt}
use Rattle.numeric.proofs.Values.{Number}
use Rattle.numeric.proofs.order.Laws.{trans}
use Rattle.numeric_sort.specs.Ordered.{insert, ordered}
use Rattle.numeric_sort.proofs.InsertLaws.{rank, of_rank, Numbers, none, also, insert_here, insert_past}
use Rattle.numeric_sort.proofs.OrderedLaws.{length-ordered, numbers-ordered, ordered_same}

-- ---- the values

pub number_in : {z : Float} {xs : List Float} → Numbers xs → Memᴰ z xs → Number z
number_in none m = absurd (Memᴰ.not-nil m)
number_in (also p n) m = ⊎_elim (λ e. subst Number (sym e) p) (λ m. number_in n m) (Memᴰ.cases_cons m)

-- and the other way round
pub numbers_in : (xs : List Float) → ((z : Float) → Memᴰ z xs → Number z) → Numbers xs
numbers_in [] f = none
numbers_in (x ∷ xs) f = also (f x (Memᴰ.head refl)) (numbers_in xs (λ z m. f z (Memᴰ.tail m)))

value_at_lem : (xs : List Float) (i : ℕ) → i < length xs → Memᴰ (get_or xs i nan) xs
value_at_lem [] i h = absurd (not-suc-le-zero h)
value_at_lem (x ∷ xs) zero h = Memᴰ.head refl
value_at_lem (x ∷ xs) (suc i) h = Memᴰ.tail (value_at_lem xs i (le_of_suc-le-suc h))

insert_only : {z x : Float} (ys : List Float) → Memᴰ z (insert x ys) → (z ≡ x) ⊎ Memᴰ z ys
unfolding insert
insert_only [] m = Memᴰ.cases_cons m
insert_only {z} {x} (y ∷ ys) m = by (total_order x y) (insert_only ys) m
  where
    by : (b : Bool) → (Memᴰ z (insert x ys) → (z ≡ x) ⊎ Memᴰ z ys) → Memᴰ z (cond b (x ∷ y ∷ ys) (y ∷ insert x ys))
        → (z ≡ x) ⊎ Memᴰ z (y ∷ ys)
    by true f m = Memᴰ.cases_cons m
    by false f m =
        ⊎_elim
        (λ e. inr (Memᴰ.head e))
        (λ k. ⊎_elim (λ e. inl e) (λ l. inr (Memᴰ.tail l)) (f k))
        (Memᴰ.cases_cons m)

insert_all : {z x : Float} (ys : List Float) → (z ≡ x) ⊎ Memᴰ z ys → Memᴰ z (insert x ys)
unfolding insert
insert_all [] m = ⊎_elim (λ e. Memᴰ.head e) (λ k. Memᴰ.tail k) m
insert_all {z} {x} (y ∷ ys) m = by (total_order x y) (insert_all ys) m
  where
    by : (b : Bool) → ((z ≡ x) ⊎ Memᴰ z ys → Memᴰ z (insert x ys)) → (z ≡ x) ⊎ Memᴰ z (y ∷ ys)
        → Memᴰ z (cond b (x ∷ y ∷ ys) (y ∷ insert x ys))
    by true f m = ⊎_elim (λ e. Memᴰ.head e) (λ k. Memᴰ.tail k) m
    by false f m =
        ⊎_elim
        (λ e. Memᴰ.tail (f (inl e)))
        (λ k. ⊎_elim (λ e. Memᴰ.head e) (λ l. Memᴰ.tail (f (inr l))) (Memᴰ.cases_cons k))
        m

-- the order has no value that the list has not
pub ordered_only : {z : Float} (xs : List Float) → Memᴰ z (ordered xs) → Memᴰ z xs
unfolding ordered
ordered_only [] m = m
ordered_only (x ∷ xs) m = ⊎_elim (λ e. Memᴰ.head e) (λ k. Memᴰ.tail (ordered_only xs k)) (insert_only (ordered xs) m)

-- and each that the list has
pub ordered_all : {z : Float} (xs : List Float) → Memᴰ z xs → Memᴰ z (ordered xs)
unfolding ordered
ordered_all [] m = m
ordered_all (x ∷ xs) m = insert_all (ordered xs) (⊎_elim (λ e. inl e) (λ k. inr (ordered_all xs k)) (Memᴰ.cases_cons m))

-- ---- their order

-- each value stands in the relation R to every later one
pub data Ascending (R : Float → Float → Type 0) : List Float → Type 0 where
  empty : Ascending R []
  before : {x : Float} {xs : List Float} → ((z : Float) → Memᴰ z xs → R x z) → Ascending R xs → Ascending R (x ∷ xs)

pub ascending_at : {R : Float → Float → Type 0} {xs : List Float} → Ascending R xs
    → (i j : ℕ) → i < j → j < length xs → R (get_or xs i nan) (get_or xs j nan)
ascending_at empty i j h k = absurd (not-suc-le-zero k)
ascending_at (before f a) i zero h k = absurd (not-suc-le-zero h)
ascending_at (before {xs} f a) zero (suc j) h k = f _ (value_at_lem xs j (le_of_suc-le-suc k))
ascending_at (before f a) (suc i) (suc j) h k = ascending_at a i j (le_of_suc-le-suc h) (le_of_suc-le-suc k)

abbrev pub AtOrBefore : Float → Float → Type 0
AtOrBefore x y = T (total_order x y)

ascending_insert : {x : Float} {ys : List Float} → Number x → Numbers ys → Ascending AtOrBefore ys → Ascending AtOrBefore (insert x ys)
unfolding insert
ascending_insert p none empty = before (λ z m. absurd (Memᴰ.not-nil m)) empty
ascending_insert {x} p (also {x = y} {xs = ys} q n) (before f a) =
    ⊎_elim
    (λ h. rw (insert_here p q ys h) (before (λ z m. ahead (of_rank p q h) z (Memᴰ.cases_cons m)) (before f a)))
    (λ h. rw (insert_past p q ys h) (before (λ z m. behind (of_rank q p (le_of_lt h)) z (insert_only ys m)) (ascending_insert p n a)))
    (le_or_lt (rank x) (rank y))
  where
    ahead : T (total_order x y) → (z : Float) → (z ≡ y) ⊎ Memᴰ z ys → T (total_order x z)
    ahead t z m = ⊎_elim (λ e. rw e t) (λ k. trans p q (number_in n k) t (f z k)) m

    behind : T (total_order y x) → (z : Float) → (z ≡ x) ⊎ Memᴰ z ys → T (total_order y z)
    behind t z m = ⊎_elim (λ e. rw e t) (λ k. f z k) m

pub ordered_ascending : {xs : List Float} → Numbers xs → Ascending AtOrBefore (ordered xs)
unfolding ordered
ordered_ascending none = empty
ordered_ascending (also p n) = ascending_insert p (numbers-ordered n) (ordered_ascending n)

-- a list whose values ascend is its own order
pub ascending_ordered : {xs : List Float} → Numbers xs → Ascending AtOrBefore xs → ordered xs ≡ xs
ascending_ordered n a = ordered_same n (ascending_at a)

module _ {xs : List Float} (n : Numbers xs) where
  -- no later value is before an earlier one
  pub ordered_rises : (i j : ℕ) → i < j → j < length xs → T (total_order (get_or (ordered xs) i nan) (get_or (ordered xs) j nan))
  ordered_rises i j h k = ascending_at (ordered_ascending n) i j h (omega (arith, length-ordered xs))

  pub ordered_again : ordered (ordered xs) ≡ ordered xs
  ordered_again = ascending_ordered (numbers-ordered n) (ordered_ascending n)

-- ---- two pieces of a list: what holds of the whole holds of each

module _ (xs ys : List Float) (n : Numbers (xs ++ ys)) where
  pub numbers_front : Numbers xs
  numbers_front = numbers_in xs (λ z m. number_in n (Memᴰ.append_left ys m))

  pub numbers-back : Numbers ys
  numbers-back = numbers_in ys (λ z m. number_in n (Memᴰ.append_right xs m))

module _ {R : Float → Float → Type 0} where
  pub ascending_front : (xs ys : List Float) → Ascending R (xs ++ ys) → Ascending R xs
  ascending_front [] ys a = empty
  ascending_front (x ∷ xs) ys (before f a) = before (λ z m. f z (Memᴰ.append_left ys m)) (ascending_front xs ys a)

  pub ascending_back : (xs ys : List Float) → Ascending R (xs ++ ys) → Ascending R ys
  ascending_back [] ys a = a
  ascending_back (x ∷ xs) ys (before f a) = ascending_back xs ys a
