-- How long the body is that build is held to.
use Rattle.std.specs.Prelude.{◌≡◌, List, ℕ, ◌+◌, ◌-◌, ◌*◌, length}

-- a body for m raw objects and the chart of n objects that is built of them
pub record BuildRoom (m n : ℕ) (body : List ℕ) : Type 0 where
  pub built : n ≡ m - 2
  pub whole : length body ≡ 10 + 9 * m + 25 * n
