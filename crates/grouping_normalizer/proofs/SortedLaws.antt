-- A set sorted again is what it was. Pieces of an ascending list ascend, so each is its own order; and a set is the front piece of the distinct values that are
-- left where it begins.
use mathlib.Core.Path.{◌≡◌, refl, ap, ◌∙◌, subst}
use mathlib.Core.Bool.{Bool, true, false, cond}
use mathlib.Core.List.{List, [], ◌∷◌, ◌++◌, map}
use Prim.Native.Nat.{ℕ, zero, suc}
use native.Mathlib.Omega.{arith}
use lib.ListN.{take, drop, get_or, take-append-drop}
use lib.Seq.{append_snoc}
use lib.Ieee.{Float}
use Rattle.numeric.specs.Near.{is_near}
use Rattle.numeric_sort.specs.Ordered.{ordered}
use Rattle.numeric_sort.proofs.InsertLaws.{Numbers}
use Rattle.numeric_sort.proofs.OrderedLaws.{ordered-few}
use Rattle.numeric_sort.proofs.AscendingLaws.{Ascending, AtOrBefore, ascending_ordered, numbers_front, numbers-back, ascending_front, ascending_back}
use Rattle.grouping_normalizer.specs.Normalizer.{distinct, sets_after, sets, middle_of, normal_of}
use Rattle.grouping_normalizer.specs.SortedAgain.{SortedAgain}
use Rattle.grouping_normalizer.proofs.AscendingLaws.{numbers-distinct, distinct_at_or_before}

-- the first of two pieces
front_sorted : (xs ys : List Float) → Numbers (xs ++ ys) → Ascending AtOrBefore (xs ++ ys) → ordered xs ≡ xs
front_sorted xs ys n a = ascending_ordered (numbers_front xs ys n) (ascending_front xs ys a)

-- ---- neighbouring places

neighbours_sorted : (values : List Float) → Numbers values → Ascending AtOrBefore values
    → (at size : ℕ) → ordered (take size (drop at values)) ≡ take size (drop at values)
neighbours_sorted values n a at size =
    let cut : values ≡ take at values ++ (take size (drop at values) ++ drop size (drop at values)) = rw (take-append-drop size, take-append-drop at) in
    front_sorted (take size (drop at values)) (drop size (drop at values))
    (numbers-back (take at values) _ (subst Numbers cut n))
    (ascending_back (take at values) _ (subst (Ascending AtOrBefore) cut a))

-- ---- the sets

-- those that come of `set` so far and the values behind it
after_sorted : (margin first : Float) (set values : List Float) → Numbers (set ++ values) → Ascending AtOrBefore (set ++ values)
    → map ordered (sets_after margin first set values) ≡ sets_after margin first set values
unfolding sets_after
after_sorted margin first set [] n a = rw (front_sorted set [] n a)
after_sorted margin first set (v ∷ values) n a =
    by
    (is_near margin v first)
    (after_sorted margin first (set ++ (v ∷ [])) values (rw append_snoc n) (rw append_snoc a))
    (after_sorted margin v (v ∷ []) values (numbers-back set (v ∷ values) n) (ascending_back set (v ∷ values) a))
  where
    by : (b : Bool) → map ordered (sets_after margin first (set ++ (v ∷ [])) values) ≡ sets_after margin first (set ++ (v ∷ [])) values
        → map ordered (sets_after margin v (v ∷ []) values) ≡ sets_after margin v (v ∷ []) values
        → map ordered (cond b (sets_after margin first (set ++ (v ∷ [])) values) (set ∷ sets_after margin v (v ∷ []) values))
        ≡ cond b (sets_after margin first (set ++ (v ∷ [])) values) (set ∷ sets_after margin v (v ∷ []) values)
    by true e f = e
    by false e f = λ t. front_sorted set (v ∷ values) n a t ∷ f t

sets_sorted : (margin : Float) (values : List Float) → Numbers values → Ascending AtOrBefore values → map ordered (sets margin values) ≡ sets margin values
unfolding sets
sets_sorted margin [] n a = refl
sets_sorted margin (v ∷ values) n a = after_sorted margin v (v ∷ []) values n a

each_sorted : (lists : List (List Float)) (i : ℕ) → ordered (get_or lists i []) ≡ get_or (map ordered lists) i []
each_sorted [] i = ordered-few [] (omega arith)
each_sorted (list ∷ lists) zero = refl
each_sorted (list ∷ lists) (suc i) = each_sorted lists i

-- ---- of finite deltas

module _ {deltas : List Float} (n : Numbers deltas) where
  all_sorted : (margin : Float) → map ordered (sets margin (distinct deltas)) ≡ sets margin (distinct deltas)
  all_sorted margin = sets_sorted margin (distinct deltas) (numbers-distinct n) (distinct_at_or_before n)

  -- sorting a set again changes nothing of it
  pub set_sorted : (margin : Float) (i : ℕ) → ordered (get_or (sets margin (distinct deltas)) i []) ≡ get_or (sets margin (distinct deltas)) i []
  set_sorted margin i = each_sorted (sets margin (distinct deltas)) i ∙ rw (all_sorted margin)

  -- nor does it where the set lies, in `size` places from `at` on of the distinct values
  pub place_sorted : (at size : ℕ) → ordered (take size (drop at (distinct deltas))) ≡ take size (drop at (distinct deltas))
  place_sorted = neighbours_sorted (distinct deltas) (numbers-distinct n) (distinct_at_or_before n)

  -- so what x counts as is the middle that the source takes
  pub middle_sorted : (margin x : Float) → middle_of x (map ordered (sets margin (distinct deltas))) ≡ normal_of margin deltas x
  unfolding normal_of
  middle_sorted margin x = ap (middle_of x) (all_sorted margin)

  pub sorted_again : SortedAgain deltas
  sorted_again = record { places = place_sorted; set = set_sorted; answer = middle_sorted }
