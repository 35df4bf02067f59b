-- The distinct values of a list: each value of it and no other, each strictly before every later one.
use mathlib.Core.Path.{◌≡◌, refl, sym, ◌∙◌, subst}
use mathlib.Core.Logic.{◌⊎◌, ⊎_elim}
use mathlib.Core.Bool.{Bool, true, false, cond, ◌&&◌}
use mathlib.Core.List.Memᴰ
use mathlib.Core.List.{List, [], ◌∷◌, Memᴰ}
use Prim.Native.Nat.{ℕ, ◌<◌}
use lib.Dec.{T}
use lib.ListN.{length, get_or}
use lib.Ieee.{Float, nan}
use Rattle.numeric.specs.TotalOrder.{total_order}
use Rattle.numeric.proofs.Values.{Number}
use Rattle.numeric.proofs.order.Laws.{total, trans}
use Rattle.numeric_sort.specs.Ordered.{ordered}
use Rattle.numeric_sort.proofs.InsertLaws.{Numbers, none, also}
use Rattle.numeric_sort.proofs.OrderedLaws.{numbers-ordered}
use Rattle.numeric_sort.proofs.AscendingLaws.{number_in, numbers_in, ordered_only, ordered_all, Ascending, empty, before, ascending_at, AtOrBefore}
use Rattle.numeric_sort.proofs.AscendingLaws.{ordered_ascending}
use Rattle.grouping_normalizer.specs.Normalizer.{alike, unrepeated, distinct}
use Rattle.grouping_normalizer.proofs.DistinctLaws.{alike_same}

-- ---- the values

unrepeated_only : {z : Float} (xs : List Float) → Memᴰ z (unrepeated xs) → Memᴰ z xs
unfolding unrepeated
unrepeated_only [] m = m
unrepeated_only (x ∷ []) m = m
unrepeated_only {z} (x ∷ y ∷ ys) m = by (alike x y) (unrepeated_only (y ∷ ys)) m
  where
    by : (b : Bool) → (Memᴰ z (unrepeated (y ∷ ys)) → Memᴰ z (y ∷ ys)) → Memᴰ z (cond b (unrepeated (y ∷ ys)) (x ∷ unrepeated (y ∷ ys)))
        → Memᴰ z (x ∷ y ∷ ys)
    by true f m = Memᴰ.tail (f m)
    by false f m = ⊎_elim (λ e. Memᴰ.head e) (λ k. Memᴰ.tail (f k)) (Memᴰ.cases_cons m)

-- of two that are alike, and so equal, the second stands for both
unrepeated_all : {z : Float} {xs : List Float} → Numbers xs → Memᴰ z xs → Memᴰ z (unrepeated xs)
unfolding unrepeated
unrepeated_all none m = m
unrepeated_all (also p none) m = m
unrepeated_all {z} (also {x} p (also {x = y} {xs = ys} q n)) m = by (alike x y) refl (unrepeated_all (also q n)) (Memᴰ.cases_cons m)
  where
    by : (b : Bool) → alike x y ≡ b → (Memᴰ z (y ∷ ys) → Memᴰ z (unrepeated (y ∷ ys))) → (z ≡ x) ⊎ Memᴰ z (y ∷ ys)
        → Memᴰ z (cond b (unrepeated (y ∷ ys)) (x ∷ unrepeated (y ∷ ys)))
    by true e f m = f (⊎_elim (λ d. Memᴰ.head (d ∙ alike_same p q e)) (λ k. k) m)
    by false e f m = ⊎_elim (λ d. Memᴰ.head d) (λ k. Memᴰ.tail (f k)) m

-- the distinct values have no value that the list has not
pub distinct_only : {z : Float} (xs : List Float) → Memᴰ z (distinct xs) → Memᴰ z xs
unfolding distinct
distinct_only xs m = ordered_only xs (unrepeated_only (ordered xs) m)

-- and each that the list has
pub distinct_all : {z : Float} {xs : List Float} → Numbers xs → Memᴰ z xs → Memᴰ z (distinct xs)
unfolding distinct
distinct_all {xs} n m = unrepeated_all (numbers-ordered n) (ordered_all xs m)

-- ---- their order

abbrev pub StrictlyBefore : Float → Float → Type 0
StrictlyBefore x y = total_order y x ≡ false

self : {x : Float} → Number x → T (total_order x x)
self p = ⊎_elim (λ t. t) (λ t. t) (total p p)

-- x stands at or before y and is not alike to it, and y stands at or before z
strictly : {x y z : Float} → Number x → Number y → Number z → T (total_order x y) → alike x y ≡ false → T (total_order y z) → StrictlyBefore x z
unfolding alike
strictly {x} {y} {z} p q r t e s = by (total_order z x) refl
  where
    both : (a b : Bool) → T a → T b → (a && b) ≡ false → ⊥
    both true true t u e = subst T e tt
    both true false t u e = u
    both false b t u e = t

    by : (b : Bool) → total_order z x ≡ b → b ≡ false
    by false f = refl
    by true f = absurd (both (total_order x y) (total_order y x) t (trans q r p s (subst T (sym f) tt)) e)

ascending_unrepeated : {xs : List Float} → Numbers xs → Ascending AtOrBefore xs → Ascending StrictlyBefore (unrepeated xs)
unfolding unrepeated
ascending_unrepeated none empty = empty
ascending_unrepeated (also p none) (before f empty) = before (λ z m. absurd (Memᴰ.not-nil m)) empty
ascending_unrepeated (also {x} p (also {x = y} {xs = ys} q n)) (before f (before g a)) =
    by (alike x y) refl (ascending_unrepeated (also q n) (before g a))
  where
    next : alike x y ≡ false → (z : Float) → Memᴰ z (y ∷ ys) → StrictlyBefore x z
    next e z m = strictly p q (number_in (also q n) m) (f y (Memᴰ.head refl)) e (⊎_elim (λ d. rw d (self q)) (λ k. g z k) (Memᴰ.cases_cons m))

    by : (b : Bool) → alike x y ≡ b → Ascending StrictlyBefore (unrepeated (y ∷ ys))
        → Ascending StrictlyBefore (cond b (unrepeated (y ∷ ys)) (x ∷ unrepeated (y ∷ ys)))
    by true e s = s
    by false e s = before (λ z m. next e z (unrepeated_only (y ∷ ys) m)) s

-- what stands strictly before stands before
not_behind : {xs : List Float} → Numbers xs → Ascending StrictlyBefore xs → Ascending AtOrBefore xs
not_behind none empty = empty
not_behind (also p n) (before f a) =
    before (λ z m. ⊎_elim (λ t. t) (λ t. absurd (subst T (f z m) t)) (total p (number_in n m))) (not_behind n a)

module _ {xs : List Float} (n : Numbers xs) where
  pub numbers-distinct : Numbers (distinct xs)
  numbers-distinct = numbers_in (distinct xs) (λ z m. number_in n (distinct_only xs m))

  pub distinct_ascending : Ascending StrictlyBefore (distinct xs)
  unfolding distinct
  distinct_ascending = ascending_unrepeated (numbers-ordered n) (ordered_ascending n)

  pub distinct_at_or_before : Ascending AtOrBefore (distinct xs)
  distinct_at_or_before = not_behind numbers-distinct distinct_ascending

  -- no value stands at or before an earlier one
  pub distinct_rises : (i j : ℕ) → i < j → j < length (distinct xs) → total_order (get_or (distinct xs) j nan) (get_or (distinct xs) i nan) ≡ false
  distinct_rises = ascending_at distinct_ascending
