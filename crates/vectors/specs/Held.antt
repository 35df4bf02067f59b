-- What a slice that was lent full of a sentinel holds after a call.
use Rattle.std.specs.Prelude.{◌≡◌, Bool, true, List, ℕ, length, replicate}
use Rattle.lent.specs.Over.{over}

-- an answer tells exactly whether P holds
abbrev pub Tells : Bool → Type 0 → Type 0
Tells r P = (r ≡ true → P) × (P → r ≡ true)

-- `got` holds `new` in its first places, and the sentinel in every other
pub record FrontHeld (new : List ℕ) (sentinel : ℕ) (got : List ℕ) : Type 0 where
  pub all : got ≡ over new (replicate (length got) sentinel)
