-- A list without a number at its end, as the library's `strip_suffix` leaves it: whether the last element is that number says which.
use mathlib.Core.Path.{◌≡◌, sym, ◌∙◌}
use mathlib.Core.Bool.{true, false, cond, and-true}
use mathlib.Core.List.{List, [], ◌∷◌}
use Prim.Native.Nat.{ℕ, suc, ◌+◌, ◌-◌, ◌<◌}
use native.Mathlib.Omega.{arith}
use borrow.Author.Tests.{ne_eqb}
use denote.Ref.{Bor}
use lib.Dec.{eqb}
use lib.ListN.{length, take, drop, get_or, drop_of_length-le}
use lib.Seq.{drop-cons}
use Rattle.std.proofs.Common.{Option, Some, None, MatchOption}
use Rattle.std.specs.Option.{unwrap_or}
use Rattle.std.specs.Cmp.Lexicographic.{pointwise}

module _ (b : ℕ) (p : 0 < b) where
  last_is : (s : List ℕ) → pointwise eqb (drop (length s - 1) s) (b ∷ []) ≡ eqb (get_or s (length s - 1) 0) b
  last_is [] = sym (ne_eqb 0 b (λ e. omega (arith, e)))
  last_is (a ∷ s) =
      let h : length (a ∷ s) - 1 < length (a ∷ s) = omega arith in
      rw (drop-cons (a ∷ s) (length (a ∷ s) - 1) 0 h, drop_of_length-le (a ∷ s) {i = suc (length (a ∷ s) - 1)} (omega arith))
      (and-true (eqb (get_or (a ∷ s) (length (a ∷ s) - 1) 0) b))

  pub stripped : (s : Bor (List ℕ)) (r : Option (Bor (List ℕ)))
      → MatchOption r (pointwise eqb (drop (length s.now - 1) s.now) (b ∷ []) ≡ false)
      (λ x. (pointwise eqb (drop (length s.now - 1) s.now) (b ∷ []) ≡ true) × (x.now ≡ take (length s.now - 1) s.now) × (length x.now + 1 ≡ length s.now))
      → cond (eqb (get_or s.now (length s.now - 1) 0) b) (take (length s.now - 1) s.now) s.now ≡ (unwrap_or r s).now
  stripped s None h = rw (sym (last_is s.now) ∙ h)
  stripped s (Some x) h = rw (sym (last_is s.now) ∙ h.0) (sym h.1)
