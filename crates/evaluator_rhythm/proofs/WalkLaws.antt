-- The walk over k own intervals, by what it meets: one that is absent, or k that exist.
use mathlib.Core.Path.{◌≡◌, refl, sym, ap, ◌∙◌}
use mathlib.Core.Bool.{Bool, true, false, cond}
use mathlib.Core.List.{List, [], ◌∷◌, ◌++◌}
use Prim.Native.Nat.{ℕ, zero, suc, ◌+◌, ◌≤◌, ◌<◌}
use native.Mathlib.Nat.{le_of_eq}
use native.Mathlib.Omega.{arith}
use native.Mathlib.Numerals.{unary_clauses}
use borrow.Author.Tests.{lt-ltb, le-ltb}
use lib.Dec.{ltb}
use lib.ListN.{length, get_or, take, set, replicate}
use Rattle.std.proofs.lemmas.List.{length-replicate, length-set, take_more_set}
use lib.Ieee.{Float}
use Rattle.lent.proofs.NeverLaws.{never}
use Rattle.numeric.specs.Constants.{one64, eight_tenths}
use Rattle.std.specs.Prelude.{Option, None, Some}
use Rattle.evaluator_rhythm.specs.RepeatedInterval.{present, some_pair, walk_penalty}
use Rattle.evaluator_rhythm.specs.passes.Walk.{newest_of, penalty_among}

-- of k own intervals at most k exist
present-most : (k : ℕ) (owns : List (Option Float)) → length (present (take k owns)) ≤ k
unfolding present
present-most zero owns = omega arith
present-most (suc k) [] = omega arith
present-most (suc k) (None ∷ owns) = let h = present-most k owns in omega arith
present-most (suc k) (Some x ∷ owns) = let h = present-most k owns in omega arith

-- and fewer where one of them is absent, or the list ends before k
present-fewer : (k j : ℕ) (owns : List (Option Float)) → j < k → get_or owns j None ≡ None → length (present (take k owns)) < k
unfolding present
present-fewer zero j owns h e = omega arith
present-fewer (suc k) j [] h e = omega arith
present-fewer (suc k) j (None ∷ owns) h e = let g = present-most k owns in omega arith
present-fewer (suc k) zero (Some x ∷ owns) h e = never (cc)
present-fewer (suc k) (suc j) (Some x ∷ owns) h e = let g = present-fewer k j owns (omega arith) e in omega arith

pub walk_absent : (threshold : Float) (k j : ℕ) (owns : List (Option Float)) → j < k → get_or owns j None ≡ None → one64 ≡ walk_penalty threshold k owns
unfolding walk_penalty
walk_absent threshold k j owns h e = rw (lt-ltb (length (present (take k owns))) k (present-fewer k j owns h e))

-- one that is absent leaves none to walk over
pub absent : (k j : ℕ) (owns : List (Option Float)) → j < k → get_or owns j None ≡ None → None ≡ newest_of k owns
unfolding newest_of
absent k j owns h e = rw (lt-ltb (length (present (take k owns))) k (present-fewer k j owns h e))

-- one that exists comes behind those before it
present-more : (i : ℕ) (owns : List (Option Float)) {x : Float} → get_or owns i None ≡ Some x → present (take (suc i) owns) ≡ present (take i owns) ++ x ∷ []
unfolding present
present-more i [] e = never (cc)
present-more zero (None ∷ owns) e = never (cc)
present-more zero (Some y ∷ owns) e = cc
present-more (suc i) (None ∷ owns) e = present-more i owns e
present-more (suc i) (Some y ∷ owns) e = ap (λ ys. y ∷ ys) (present-more i owns e)

-- the first i of k own intervals exist, and stand in front of the k places of found
pub record FrontExists (owns : List (Option Float)) (found : List Float) (i k : ℕ) : Type 0 where
  pub front : take i found ≡ present (take i owns)
  pub long : length found ≡ k

pub none_filled : (owns : List (Option Float)) (k : ℕ) (x : Float) → FrontExists owns (replicate k x) 0 k
unfolding present
none_filled owns k x = record { front = refl; long = length-replicate k x }

pub one_filled : (owns : List (Option Float)) {found : List Float} {i k : ℕ} {x : Float} → FrontExists owns found i k → i < k → get_or owns i None ≡ Some x
    → FrontExists owns (set found i x) (i + 1) k
one_filled owns {found} {i} {k} {x} r h e = record {
  front = take_more_set found i x (omega (arith, r.long)) ∙ ap (λ ys. ys ++ x ∷ []) r.front ∙ sym (simp unary_clauses (present-more i owns e));
  long = length-set found i x ∙ r.long;
}

-- own intervals that all exist, with their numbers of milliseconds
pub data Existing : List (Option Float) → List Float → Type 0 where
  none : Existing [] []
  next : {own : Option Float} {owns : List (Option Float)} {x : Float} {xs : List Float} → own ≡ Some x → Existing owns xs → Existing (own ∷ owns) (x ∷ xs)

present_all : {owns : List (Option Float)} {xs : List Float} → Existing owns xs → present owns ≡ xs
unfolding present
present_all none = refl
present_all (next {own} {owns} {x} {xs} h r) = rw (h, present_all r)

-- b is what the search for a similar pair found
pub walk_existing : (threshold : Float) (k : ℕ) (owns : List (Option Float)) {xs : List Float} {b : Bool} → Existing (take k owns) xs → length xs ≡ k
    → b ≡ some_pair threshold xs → cond b eight_tenths one64 ≡ walk_penalty threshold k owns
unfolding walk_penalty
walk_existing threshold k owns {xs} {b} r l h = rw (present_all r, le-ltb (length xs) k (le_of_eq (sym l)), ← h)

-- the walk in its two steps
pub walked : (threshold : Float) (k : ℕ) (owns : List (Option Float)) → penalty_among threshold (newest_of k owns) ≡ walk_penalty threshold k owns
unfolding penalty_among newest_of walk_penalty
walked threshold k owns = by (ltb (length (present (take k owns))) k)
  where
    by : (fewer : Bool)
        → penalty_among threshold (cond fewer None (Some (present (take k owns))))
        ≡ cond fewer one64 (cond (some_pair threshold (present (take k owns))) eight_tenths one64)
    by true = refl
    by false = refl
