-- The front of a slice that numbers were looked up to is what was looked up, by a whole list of places, however it was taken.
use mathlib.Core.Path.{◌≡◌, ap, ◌∙◌}
use mathlib.Core.List.{List, map}
use Prim.Native.Nat.{ℕ}
use lib.ListN.{length, take}
use Rattle.lent.specs.Over.{over}
use Rattle.lent.specs.Scan.{gathered}
use Rattle.lent.proofs.OverLaws.{front}
use Rattle.lent.proofs.FillLaws.{as_wide, length-gathered}

pub gathered_front : (table whole old : List ℕ) {idx new : List ℕ} {n : ℕ} → idx ≡ whole → length whole ≡ n
    → new ≡ over (map (λ (x : ℕ). x) (gathered table idx)) old → take n new ≡ gathered table whole
gathered_front table whole old {idx} {n = n} same l e =
    ap (take n) (as_wide _ _ e) ∙ front (gathered table idx) old n (length-gathered table idx ∙ ap length same ∙ l) ∙ ap (gathered table) same
