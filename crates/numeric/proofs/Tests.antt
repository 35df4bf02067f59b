-- Small laws of tests, that is of Bools; and one that a test decides: of two numbers one is the smaller, or they are equal.
use mathlib.Core.Path.{◌≡◌, refl}
use mathlib.Core.Logic.{◌⊎◌, inl, inr}
use mathlib.Core.Bool.{Bool, true, false, not, ◌||◌}
use Prim.Native.Nat.{ℕ, ◌≤◌, ◌<◌}
use lib.Dec.{T, leb, leb→le, nleb→lt}

pub or_l : (a b : Bool) → T a → T (a || b)
or_l true b t = tt
or_l false b t = absurd t

pub or_r : (a b : Bool) → T b → T (a || b)
or_r true b t = tt
or_r false b t = t

-- two tests that hold together are one test
pub same_test : (a b : Bool) → (T a → T b) → (T b → T a) → a ≡ b
same_test true true p q = refl
same_test true false p q = absurd (p tt)
same_test false true p q = absurd (q tt)
same_test false false p q = refl

pub le_or_lt : (x y : ℕ) → (x ≤ y) ⊎ (y < x)
le_or_lt x y = go (leb x y) (leb→le x y) (nleb→lt x y)
  where
    go : (b : Bool) → (T b → x ≤ y) → (T (not b) → y < x) → (x ≤ y) ⊎ (y < x)
    go true h k = inl (h tt)
    go false h k = inr (k tt)
