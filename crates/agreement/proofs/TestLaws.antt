-- What it means that tests say true: each of some tests does, or the test of some number below n.
use mathlib.Core.Path.{◌≡◌, refl, ap, ◌∙◌}
use mathlib.Core.Logic.{◌⊎◌, inl, inr}
use mathlib.Core.List.{List, [], ◌∷◌}
use mathlib.Core.Bool.{Bool, true, false}
use Prim.Native.Nat.{ℕ, zero, suc, ◌<◌}
use native.Mathlib.Nat.{not-suc-le-zero, eq-or-lt_of_le, le_of_suc-le-suc}
use native.Mathlib.Omega.{arith}
use Rattle.lent.proofs.NeverLaws.{never}
use Rattle.agreement.specs.passes.Tests.{all_true, any_below}

-- ---- all of some tests

pub all_first : (b : Bool) (bs : List Bool) → all_true (b ∷ bs) ≡ true → b ≡ true
unfolding all_true
all_first true bs e = refl
all_first false bs e = e

pub all_rest : (b : Bool) (bs : List Bool) → all_true (b ∷ bs) ≡ true → all_true bs ≡ true
unfolding all_true
all_rest true bs e = e
all_rest false bs e = never (cc)

pub all_none : all_true [] ≡ true
unfolding all_true
all_none = refl

pub all_more : (b : Bool) (bs : List Bool) → b ≡ true → all_true bs ≡ true → all_true (b ∷ bs) ≡ true
unfolding all_true
all_more b bs e f = rw e f

-- ---- a test of some number

pub record FoundBelow (n : ℕ) (test : ℕ → Bool) : Type 0 where
  pub number : ℕ
  pub below : number < n
  pub passes : test number ≡ true

pub any_found : (n : ℕ) (test : ℕ → Bool) → any_below n test ≡ true → FoundBelow n test
unfolding any_below
any_found zero test e = never (cc)
any_found (suc n) test e = by (test n) refl e (λ q. later (any_found n test q))
  where
    later : FoundBelow n test → FoundBelow (suc n) test
    later x = record { number = x.number; below = omega (arith, x.below); passes = x.passes }

    by : (b : Bool) → test n ≡ b → elim b [ true ↦ true | false ↦ any_below n test ] ≡ true
        → (any_below n test ≡ true → FoundBelow (suc n) test) → FoundBelow (suc n) test
    by true h q go = record { number = n; below = omega arith; passes = h }
    by false h q go = go q

pub found_any : (n : ℕ) (test : ℕ → Bool) (i : ℕ) → i < n → test i ≡ true → any_below n test ≡ true
unfolding any_below
found_any zero test i h e = absurd (not-suc-le-zero h)
found_any (suc n) test i h e = by (test n) refl (eq-or-lt_of_le (le_of_suc-le-suc h)) (λ l. found_any n test i l e)
  where
    by : (b : Bool) → test n ≡ b → (i ≡ n) ⊎ (i < n) → (i < n → any_below n test ≡ true) → elim b [ true ↦ true | false ↦ any_below n test ] ≡ true
    by true q c go = refl
    by false q (inl r) go = let f : test i ≡ false = ap test r ∙ q in never (cc)
    by false q (inr l) go = go l

pub none_found : (n : ℕ) (test : ℕ → Bool) → ((i : ℕ) → i < n → test i ≡ true → ⊥) → any_below n test ≡ false
none_found n test h = by (any_below n test) refl
  where
    by : (b : Bool) → any_below n test ≡ b → b ≡ false
    by true e = let x = any_found n test e in absurd (h x.number x.below x.passes)
    by false e = refl

pub found_none : (n : ℕ) (test : ℕ → Bool) → any_below n test ≡ false → (i : ℕ) → i < n → test i ≡ true → ⊥
found_none n test e i h t = let f : any_below n test ≡ true = found_any n test i h t in never (cc)
