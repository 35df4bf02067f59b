-- Answers that tell whether something holds: of a false one, of a true one, and of the same said in other words.
use mathlib.Core.Path.{◌≡◌, refl, subst}
use mathlib.Core.Bool.{Bool, true, false}
use Prim.Native.Nat.{ℕ}
use borrow.Author.Tests.{eqb-true, eq-eqb}
use lib.Dec.{eqb}
use Rattle.lent.proofs.NeverLaws.{never}
use Rattle.vectors.specs.Held.{Tells}

pub denied : {P : Type 0} → (P → ⊥) → Tells false P
denied f = (λ e. never (cc), λ p. absurd (f p))

pub granted : {P : Type 0} → P → Tells true P
granted p = (λ e. p, λ q. refl)

pub tells_as : {P Q : Type 0} {r : Bool} → (P → Q) → (Q → P) → Tells r P → Tells r Q
tells_as f g t = (λ e. f (t.0 e), λ q. t.1 (g q))

-- the same of another value, which is equal
pub tells_of : {A : Type 0} (P : A → Type 0) {x y : A} {r : Bool} → x ≡ y → Tells r (P x) → Tells r (P y)
tells_of {A} P {r} e t = subst (λ (z : A). Tells r (P z)) e t

-- ---- tests of numbers

pub tells_eqb : (a b : ℕ) → Tells (eqb a b) (a ≡ b)
tells_eqb a b = (eqb-true a b, eq-eqb a b)
