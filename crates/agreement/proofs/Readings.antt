-- Readings of "landmark", as tests: where a list has a landmark of one, and how one is refuted. For that two lists end alike, the one has a landmark of the
-- reading, and there a group opens in the one and none in the other.
use mathlib.Core.Path.{◌≡◌, sym, ◌∙◌}
use mathlib.Core.Bool.{Bool, true, cond, not}
use mathlib.Core.List.{List, [], ◌∷◌, ◌++◌}
use Prim.Native.Nat.{ℕ, zero, suc, ◌+◌, ◌-◌, ◌<◌}
use native.Mathlib.Omega.{arith}
use lib.Dec.{eqb, ltb}
use lib.ListN.{length, get_or, length-append}
use lib.Seq.{drop_at}
use borrow.Author.Tests.{ltb-true, eqb-true, eq-eqb, not-true, not-false}
use Rattle.agreement.specs.passes.Tests.{all_true, any_below}
use Rattle.agreement.specs.CommonTail.{Counterparts, last_of, SameLast}
use Rattle.agreement.specs.SameGroups.{groups, OpensAt, SameGroups}
use Rattle.agreement.proofs.TestLaws.{all_first, all_rest, any_found, found_none}

-- a reading: whether there is a landmark at a place of a list, where the last so many are the tail
abbrev pub Reading : Type 0 → Type 0
Reading A = List A → ℕ → ℕ → Bool

-- ---- where there are landmarks

-- a list, as what stands before its tail and the tail, and the offsets in the tail at which there is a landmark
pub record LandmarkExample : Type 0 where
  pub before : List ℕ
  pub tail : List ℕ
  pub offsets : List ℕ

-- the offsets below n at which the reading finds one
unfoldable pub offsets_below : Reading ℕ → LandmarkExample → ℕ → List ℕ
offsets_below reading x zero = []
offsets_below reading x (suc n) =
    offsets_below reading x n ++ cond (reading (x.before ++ x.tail) (length x.tail) (length x.before + n)) (n ∷ []) []

unfoldable pub offsets_found : Reading ℕ → LandmarkExample → List ℕ
offsets_found reading x = offsets_below reading x (suc (length x.tail))

-- ---- how a reading is refuted

-- the claim from every landmark of a reading, read in the one list, where the groups of a list have these numbers
abbrev pub ClaimFrom : {A : Type 0} → (List A → List ℕ) → Reading A → Type 0
ClaimFrom {A} numbers reading =
    (xs ys : List A) (t i i' : ℕ) → SameLast t xs ys → Counterparts (length xs) (length ys) i i' → reading xs t i ≡ true
    → SameGroups (groups (length xs) (numbers xs)) i (groups (length ys) (numbers ys)) i'

-- no object before object i is of its group
unfoldable pub opens_there : List ℕ → ℕ → Bool
opens_there numbers i = not (any_below i (λ (j : ℕ). eqb (get_or numbers j 0) (get_or numbers i 0)))

-- two lists that end in `tail`: at the offset in it there is a landmark of the reading in the first, and a group opens there in the first only
unfoldable pub refutes : {A : Type 0} → (List A → List ℕ) → Reading A → List A → List A → List A → ℕ → Bool
refutes numbers reading before before' tail offset =
    all_true (ltb offset (length tail)
    ∷ reading (before ++ tail) (length tail) (length before + offset)
    ∷ opens_there (numbers (before ++ tail)) (length before + offset)
    ∷ not (opens_there (numbers (before' ++ tail)) (length before' + offset))
    ∷ [])

module _ {A : Type 0} (numbers : List A → List ℕ) (reading : Reading A) (before before' tail : List A) (offset : ℕ) where
  ends_in : (front : List A) → last_of (length tail) (front ++ tail) ≡ tail
  ends_in front = drop_at front tail (length (front ++ tail) - length tail) (omega (arith, length-append front tail))

  same_tail : SameLast (length tail) (before ++ tail) (before' ++ tail)
  same_tail = record {
    inside = omega (arith, length-append before tail);
    inside' = omega (arith, length-append before' tail);
    alike = ends_in before ∙ sym (ends_in before');
  }

  pub refuted : refutes numbers reading before before' tail offset ≡ true → ClaimFrom numbers reading → ⊥
  unfolding refutes opens_there
  refuted e claim =
      let i : ℕ = length before + offset in
      let i' : ℕ = length before' + offset in
      let e₁ = all_rest _ _ e in
      let e₂ = all_rest _ _ e₁ in
      let inside : offset < length tail = ltb-true _ _ (all_first _ _ e) in
      let none = found_none i (λ (j : ℕ). eqb (get_or (numbers (before ++ tail)) j 0) (get_or (numbers (before ++ tail)) i 0)) (not-true _ (all_first _ _ e₂))
      in
      let earlier = any_found _ _ (not-false _ (not-true _ (all_first _ _ (all_rest _ _ e₂)))) in
      let far : Counterparts (length (before ++ tail)) (length (before' ++ tail)) i i' = omega (arith, length-append before tail, length-append before' tail) in
      let same = claim (before ++ tail) (before' ++ tail) (length tail) i i' same_tail far (all_first _ _ e₁) in
      let opens : OpensAt (groups (length (before ++ tail)) (numbers (before ++ tail))) i =
      record { there = omega (arith, length-append before tail); first = λ j h f. none j h (eq-eqb _ _ f) } in
      ((same.opens i i' (omega arith) far).0 opens).first earlier.number earlier.below (eqb-true _ _ earlier.passes)
