-- Lists written one after the other, all before one place: what lies from there on is as it was.
use mathlib.Core.Path.{◌≡◌, refl, ◌∙◌}
use mathlib.Core.List.{List, [], ◌∷◌}
use Prim.Native.Nat.{ℕ, ◌+◌, ◌≤◌}
use native.Mathlib.Omega.{arith}
use lib.ListN.{length, drop}
use Rattle.lent.specs.Over.{put, Write, written}
use Rattle.lent.proofs.OverLaws.{length-put, drop-put}

-- every one of them ends at place b or before
abbrev pub Ends : {A : Type 0} → ℕ → List (Write A) → Type 0
Ends b [] = Unit {0}
Ends b (x ∷ xs) = (x.place + length x.items ≤ b) × Ends b xs

module _ {A : Type 0} (b : ℕ) where
  pub length-written : (xs : List (Write A)) → Ends b xs → (old : List A) → b ≤ length old → length (written xs old) ≡ length old
  length-written [] e old h = refl
  length-written (x ∷ xs) e old h =
      let l : length (put x.place x.items old) ≡ length old = length-put x.place x.items old (omega (arith, e.0)) in
      length-written xs e.1 (put x.place x.items old) (omega arith) ∙ l

  pub drop-written : (xs : List (Write A)) → Ends b xs → (old : List A) → drop b (written xs old) ≡ drop b old
  drop-written [] e old = refl
  drop-written (x ∷ xs) e old = drop-written xs e.1 (put x.place x.items old) ∙ drop-put b x.place x.items old e.0
