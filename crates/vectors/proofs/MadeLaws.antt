-- An array that a closure makes place by place, where no call changes the closure: it has the value of each place.
use Rattle.std.proofs.Common.{◌≡◌, ℕ, zero, suc, ◌+◌, ◌<◌, ◌≤◌, List, [], ◌∷◌, ◌++◌, get_or, refl, sym, ap, ◌∙◌, arith}
use mathlib.Core.Logic.{⊎_elim}
use native.Mathlib.Nat.{eq-or-lt_of_le}
use Rattle.std.specs.Array.{IsFromFnResult, IsFromFnResultFrom}
use Rattle.std.specs.Fn.{Called, Mut}
use lib.Seq.{ext_get_or}
use Rattle.lent.specs.Scan.{tabulate}
use Rattle.lent.proofs.FillLaws.{length-tabulate, get_or-tabulate, tabulate_none, tabulate-last}
use Rattle.vectors.specs.Case.{bytes_at}

module _ {F : Type 0} (g : Mut F (ℕ × Unit {0}) ℕ) (f : F) (ys : List ℕ) (value : ℕ → ℕ)
    (calls : (i given : ℕ) (q : F) → Called g f (i, tt) given q → (q ≡ f) × (given ≡ value i)) where
  each : (n i j : ℕ) (p : F) → p ≡ f → IsFromFnResultFrom g p ys i n → i ≤ j → j < i + n → get_or ys j 0 ≡ value j
  each zero i j p e made l h = absurd (omega arith)
  each (suc n) i j p e made l h =
      let here : (made.0 ≡ f) × (made.1 ≡ value i) = calls i made.1 made.0 (rw e at made.3) in
      ⊎_elim (λ (s : i ≡ j). sym (ap (λ (k : ℕ). get_or ys k 0) s) ∙ made.2.1 0 ∙ here.1 ∙ ap value s)
      (λ (m : i < j). each n (i + 1) j made.0 here.0 made.4 (omega arith) (omega arith))
      (eq-or-lt_of_le l)

  pub made_by_place : (n : ℕ) → IsFromFnResult g f ys n → ys ≡ tabulate value n
  made_by_place n made =
      ext_get_or 0 ys (tabulate value n) (made.long ∙ sym (length-tabulate value n))
      (λ i h. each n 0 i f refl made.each (omega arith) (omega (arith, made.long)) ∙ sym (get_or-tabulate value n i 0 (omega (arith, made.long))))

-- the bytes from a place on, by the place
pub bytes-made : (s : List ℕ) (at n : ℕ) → tabulate (λ k. get_or s (at + k) 0) n ≡ bytes_at s at n
unfolding bytes_at
bytes-made s at zero = tabulate_none (λ k. get_or s (at + k) 0)
bytes-made s at (suc n) = tabulate-last (λ k. get_or s (at + k) 0) n ∙ ap (λ l. l ++ (get_or s (at + n) 0 ∷ [])) (bytes-made s at n)
