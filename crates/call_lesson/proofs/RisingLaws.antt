-- Numbers that rise: each is above the one before it, and so above all before it; where one is not, they do not rise.
use mathlib.Core.Path.{◌≡◌, refl, sym}
use mathlib.Core.Logic.{⊎_elim}
use mathlib.Core.Bool.{Bool, true, false}
use mathlib.Core.List.{List, [], ◌∷◌}
use Prim.Native.Nat.{ℕ, zero, suc, ◌+◌, ◌≤◌, ◌<◌}
use native.Mathlib.Nat.{eq-or-lt_of_le}
use native.Mathlib.Numerals.{add-one}
use native.Mathlib.Omega.{arith}
use borrow.Author.Tests.{ltb-true, ltb-false, lt-ltb}
use lib.Dec.{ltb}
use lib.ListN.{length, get_or}
use Rattle.std.specs.List.{IsAllAdjacentAnswer}
use Rattle.std.proofs.lemmas.Bool.{and_parts}
use Rattle.call_lesson.specs.Lesson.{rising}

each_rises : (xs : List ℕ) → rising xs ≡ true → (i : ℕ) → suc i < length xs → get_or xs i 0 < get_or xs (suc i) 0
unfolding rising
each_rises [] e i h = absurd (omega arith)
each_rises (x ∷ []) e i h = absurd (omega arith)
each_rises (x ∷ (y ∷ ys)) e zero h = ltb-true x y (and_parts _ _ e).0
each_rises (x ∷ (y ∷ ys)) e (suc i) h = each_rises (y ∷ ys) (and_parts (ltb x y) _ e).1 i (omega arith)

rises_each : (xs : List ℕ) → ((i : ℕ) → suc i < length xs → get_or xs i 0 < get_or xs (suc i) 0) → rising xs ≡ true
unfolding rising
rises_each [] g = refl
rises_each (x ∷ []) g = refl
rises_each (x ∷ (y ∷ ys)) g = rw (lt-ltb x y (g 0 (omega arith))) (rises_each (y ∷ ys) (λ i h. g (suc i) (omega arith)))

falls_once : (xs : List ℕ) (i : ℕ) → suc i < length xs → get_or xs (suc i) 0 ≤ get_or xs i 0 → rising xs ≡ false
falls_once xs i h k = by (rising xs) refl
  where
    by : (b : Bool) → rising xs ≡ b → rising xs ≡ false
    by true e = absurd (omega (arith, each_rises xs e i h))
    by false e = e

-- what `is_sorted_by` answers
pub rising_told : (xs : List ℕ) (told : Bool) → IsAllAdjacentAnswer (λ x y b. b ≡ ltb x y) xs told → told ≡ rising xs
rising_told xs true h = sym (rises_each xs (λ i k. let l : i + 1 < length xs = omega arith in ltb-true _ _ (sym (rw add-one at (h i 0 l)))))
rising_told xs false (k, h, falls) =
    let l : suc k < length xs = omega (arith, h) in
    sym (falls_once xs k l (ltb-false _ _ (sym (rw add-one at (falls 0)))))

-- no two are equal
pub all_rise : (xs : List ℕ) → rising xs ≡ true → (i j : ℕ) → i < j → j < length xs → get_or xs i 0 < get_or xs j 0
all_rise xs e i zero h k = absurd (omega arith)
all_rise xs e i (suc j) h k =
    ⊎_elim (λ (q : i ≡ j). rw q (each_rises xs e j k)) (λ l. omega (arith, all_rise xs e i j l (omega arith), each_rises xs e j k))
    (eq-or-lt_of_le (omega arith))

-- and as many others do that rise wherever these do
pub rise_alike : (xs ys : List ℕ) → length ys ≡ length xs
    → ((i : ℕ) → suc i < length xs → get_or xs i 0 < get_or xs (suc i) 0 → get_or ys i 0 < get_or ys (suc i) 0)
    → rising xs ≡ true → rising ys ≡ true
rise_alike xs ys many g e =
    rises_each ys (λ i h. let k : suc i < length xs = omega (arith, many) in g i k (each_rises xs e i k))
