-- What the steps of `tenths` promise: the size as a fraction, and the whole number nearest to ten times it.
use Rattle.std.specs.Prelude.{◌≡◌, ℕ, ◌*◌, ◌^◌, ◌≤◌, ◌<◌, Float}
use Rattle.std.specs.Float.Ieee.Digits.{Equals}
use Rattle.std.specs.Float.Ieee.Nearest.{closest}

-- the size of x is digits / 2 ^ shift
pub record ScaledOf (x : Float) (digits shift : ℕ) : Type 0 where
  pub few : digits < 2 ^ 53
  pub low : shift ≤ 1074
  pub value : Equals x digits (2 ^ shift)

-- the answer, with the bound that its cast to an i64 needs
pub record TenNearest (digits shift r : ℕ) : Type 0 where
  pub equal : r ≡ closest (10 * digits) (2 ^ shift)
  pub small : r < 2 ^ 58
