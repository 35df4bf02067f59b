-- The sets of the normaliser, by how long the one in front is: `sets_front`. With it the walk from set to set, and how long a set is by a count.
use mathlib.Core.Path.{◌≡◌, refl, ap, ◌∙◌}
use mathlib.Core.Bool.{Bool, true, false, cond, ◌||◌}
use mathlib.Core.List.{List, [], ◌∷◌, ◌++◌, append-nil}
use Prim.Native.Nat.{ℕ, zero, suc, ◌+◌, ◌-◌, ◌/◌, ◌%◌, ◌<◌}
use native.Mathlib.Numerals.{add-one}
use native.Mathlib.Omega.{arith}
use lib.IntN.{pos}
use lib.ListN.{length, take, drop, get_or, drop_of_length-le}
use lib.Seq.{drop-cons, append_snoc}
use lib.Ieee.{Float, nan, fin, binary64, add, div}
use borrow.Author.Tests.{eq-eqb, ne_eqb}
use Rattle.std.specs.List.{list_any, prefix_len, range_with_len}
use Rattle.std.proofs.lemmas.List.FromFn.{length-range_with_len}
use Rattle.std.proofs.lemmas.List.Folds.{length-prefix_len}
use Rattle.std.proofs.lemmas.List.Sums.{prefix_len-le-length}
use Rattle.numeric.specs.Near.{is_near}
use Rattle.grouping_normalizer.specs.Normalizer.{alike, holds, middle, middle_of, sets_after, sets}
use Rattle.grouping_normalizer.specs.passes.Sets.{running, set_len, SetLen}

-- ---- cases of the definitions

module _ (set : List Float) where
  pub middle_odd : length set % 2 ≡ 1 → get_or set (length set / 2) nan ≡ middle set
  unfolding middle
  middle_odd e = rw (eq-eqb (length set % 2) 1 e)

  pub middle-even : (length set % 2 ≡ 1 → ⊥)
      → div binary64 (add binary64 (get_or set (length set / 2 - 1) nan) (get_or set (length set / 2) nan)) (fin false 1 (pos 1)) ≡ middle set
  unfolding middle
  middle-even d = rw (ne_eqb (length set % 2) 1 d)

-- ---- the end of a set

-- from place k on: how many places without a break hold values that are near the first
near_places : (margin first : Float) (values : List Float) (k n : ℕ) → k + n ≡ length values
    → prefix_len (λ i. is_near margin (get_or values i nan) first) (range_with_len k n) ≡ running margin first (drop k values)
unfolding running
near_places margin first values k zero e = rw (drop_of_length-le values {i = k} (omega (arith, e)))
near_places margin first values k (suc n) e =
    let behind : drop k values ≡ get_or values k nan ∷ drop (k + 1) values = rw (drop-cons values k nan (omega (arith, e)), add-one) in
    rw behind (by (is_near margin (get_or values k nan) first) (near_places margin first values (k + 1) n (omega (arith, e))))
  where
    by : (t : Bool)
        → prefix_len (λ i. is_near margin (get_or values i nan) first) (range_with_len (k + 1) n) ≡ running margin first (drop (k + 1) values)
        → cond t (1 + prefix_len (λ i. is_near margin (get_or values i nan) first) (range_with_len (k + 1) n)) 0
        ≡ cond t (suc (running margin first (drop (k + 1) values))) 0
    by true h = omega arith
    by false h = refl

-- the places behind the first whose values are near it without a break, counted, and the first one
pub set_counted : (margin : Float) (values : List Float) (r : ℕ) → 0 < length values
    → r ≡ length (take (prefix_len (λ i. is_near margin (get_or values i nan) (get_or values 0 nan)) (range_with_len 1 (length values - 1)))
    (range_with_len 1 (length values - 1)))
    → SetLen margin values (1 + r)
unfolding set_len
set_counted margin values r h e =
    let near : ℕ → Bool = λ i. is_near margin (get_or values i nan) (get_or values 0 nan) in
    let places = range_with_len 1 (length values - 1) in
    let count : r ≡ prefix_len near places = e ∙ length-prefix_len near places in
    record {
      number = omega (arith, count, near_places margin (get_or values 0 nan) values 1 (length values - 1) (omega arith));
      some = omega arith;
      upto = omega (arith, count, prefix_len-le-length near places, length-range_with_len 1 (length values - 1));
    }

-- ---- what is held

pub any_alike : (x : Float) (values : List Float) → list_any (alike x) values ≡ holds x values
unfolding holds
any_alike x [] = refl
any_alike x (v ∷ values) = ap (λ b. alike x v || b) (any_alike x values)

-- ---- from set to set

sets_after_lem : (margin first : Float) (set values : List Float)
    → sets_after margin first set values ≡ (set ++ take (running margin first values) values) ∷ sets margin (drop (running margin first values) values)
unfolding sets_after sets running
sets_after_lem margin first set [] = rw (append-nil set)
sets_after_lem margin first set (v ∷ values) = by (is_near margin v first) (running margin first values) (sets_after_lem margin first (set ++ (v ∷ [])) values)
  where
    by : (t : Bool) (k : ℕ) → sets_after margin first (set ++ (v ∷ [])) values ≡ ((set ++ (v ∷ [])) ++ take k values) ∷ sets margin (drop k values)
        → cond t (sets_after margin first (set ++ (v ∷ [])) values) (set ∷ sets_after margin v (v ∷ []) values)
        ≡ (set ++ take (cond t (suc k) 0) (v ∷ values)) ∷ sets margin (drop (cond t (suc k) 0) (v ∷ values))
    by true k e = e ∙ rw append_snoc
    by false k e = rw (append-nil set)

-- the set in front, and the sets of what is behind it
pub sets_front : (margin : Float) (values : List Float) → 0 < length values
    → sets margin values ≡ take (set_len margin values) values ∷ sets margin (drop (set_len margin values) values)
unfolding sets set_len
sets_front margin [] h = absurd (omega arith)
sets_front margin (v ∷ values) h = sets_after_lem margin v (v ∷ []) values

-- x counts as the middle of the set in front where that holds it, and else as it does among the others
module _ {margin : Float} (x : Float) {rest set others : List Float} {k : ℕ} (h : 0 < length rest) (s : SetLen margin rest k) (f : set ≡ take k rest)
    (b : others ≡ drop k rest) where
  middle_front : middle_of x (sets margin rest) ≡ cond (holds x set) (middle set) (middle_of x (sets margin others))
  unfolding middle_of
  middle_front = rw (f, b, sets_front margin rest h, s.number)

  pub middle_found : holds x set ≡ true → middle_of x (sets margin rest) ≡ middle set
  middle_found e = middle_front ∙ rw e

  pub middle_next : holds x set ≡ false → middle_of x (sets margin rest) ≡ middle_of x (sets margin others)
  middle_next e = middle_front ∙ rw e

pub middle_none : (margin x : Float) (values : List Float) → length values ≡ 0 → middle_of x (sets margin values) ≡ x
unfolding middle_of sets
middle_none margin x [] h = refl
middle_none margin x (v ∷ values) h = absurd (omega arith)

-- what the search of `middle_of` is given
pub ruleset middles = (middle_next, middle_none)
