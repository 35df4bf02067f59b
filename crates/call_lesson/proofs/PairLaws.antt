-- The pairs of a lesson, by their place.
use mathlib.Core.Path.{◌≡◌, refl, sym, ap, ◌∙◌}
use mathlib.Core.List.{List, [], ◌∷◌, map}
use Prim.Native.Nat.{ℕ, zero, suc, ◌<◌}
use native.Mathlib.Omega.{arith}
use Rattle.std.specs.Prelude.{zip}
use Rattle.std.proofs.lemmas.List.{get_or-map}
use lib.ListN.{length, get_or, length-map}
use Rattle.lent.specs.Scan.{tabulate}
use Rattle.lent.proofs.FillLaws.{tabulate-agree, tabulate_places}
use Rattle.call_lesson.specs.Lesson.{Stretches, Pair, pair_count, pairs}
use Rattle.call_lesson.specs.passes.Rooms.{Paired, pair_at}

length-zip : (xs ys : List ℕ) → length ys ≡ length xs → length (zip xs ys) ≡ length xs
length-zip [] ys e = refl
length-zip (x ∷ xs) [] e = absurd (omega (arith, e))
length-zip (x ∷ xs) (y ∷ ys) e = ap suc (length-zip xs ys (omega (arith, e)))

get_or-zip : (xs ys : List ℕ) → length ys ≡ length xs → (i : ℕ) (d : Pair) → i < length xs → get_or (zip xs ys) i d ≡ (get_or xs i 0, get_or ys i 0)
get_or-zip [] ys e i d h = absurd (omega arith)
get_or-zip (x ∷ xs) [] e i d h = absurd (omega (arith, e))
get_or-zip (x ∷ xs) (y ∷ ys) e zero d h = refl
get_or-zip (x ∷ xs) (y ∷ ys) e (suc i) d h = get_or-zip xs ys (omega (arith, e)) i d (omega arith)

module _ (l : Stretches) (paired : Paired l) where
  pub length-pairs : length (pairs l) ≡ pair_count l
  length-pairs = length-zip l.offsets l.lengths paired

  pub get_or-pairs : (i : ℕ) (d : Pair) → i < pair_count l → get_or (pairs l) i d ≡ pair_at l i
  get_or-pairs = get_or-zip l.offsets l.lengths paired

  -- what is answered of each pair
  module _ {B : Type 0} (answer : Pair → B) where
    pub length-answers : length (map answer (pairs l)) ≡ pair_count l
    length-answers = length-map (pairs l) answer ∙ length-pairs

    pub answer_at : (i : ℕ) (d : B) → i < pair_count l → get_or (map answer (pairs l)) i d ≡ answer (pair_at l i)
    answer_at i d h =
        get_or-map answer (pairs l) i (0, 0) d (omega (arith, length-pairs)) ∙ ap answer (get_or-pairs i (0, 0) h)

    pub by_pair : B → tabulate (λ i. answer (pair_at l i)) (pair_count l) ≡ map answer (pairs l)
    by_pair d =
        tabulate-agree _ (λ i. get_or (map answer (pairs l)) i d) (pair_count l) (λ i h. sym (answer_at i d h))
        ∙ tabulate_places (map answer (pairs l)) d (pair_count l) length-answers

  -- what is answered alike of each pair is answered alike of all
  pub answers_alike : {B : Type 0} (f g : Pair → B) → B → ((i : ℕ) → i < pair_count l → f (pair_at l i) ≡ g (pair_at l i)) → map f (pairs l) ≡ map g (pairs l)
  answers_alike f g d e = sym (by_pair f d) ∙ tabulate-agree _ _ (pair_count l) e ∙ by_pair g d
