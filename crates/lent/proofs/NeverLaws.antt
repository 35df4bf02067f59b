-- What follows where facts contradict each other, as two constructors that are equal do: `cc` makes 0 ≡ 1 of them, and from that follows anything.
use mathlib.Core.Path.{◌≡◌}
use Prim.Native.Nat.{ℕ}
use native.Mathlib.Omega.{arith}

pub never : {X : Type 0} → ◌≡◌ {A = ℕ} 0 1 → X
never e = absurd (omega arith)
