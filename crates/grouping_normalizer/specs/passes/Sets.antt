-- How long a set of the normaliser is. The law that ties it to the sets is `sets_front`, in proofs/SetLaws.antt.
use Rattle.std.specs.Prelude.{◌≡◌, ℕ, suc, ◌≤◌, ◌<◌, cond, List, [], ◌∷◌, length, drop, get_or, Float}
use Rattle.std.specs.Float.{nan}
use Rattle.numeric.specs.Near.{is_near}

-- how many values, from the front, are near `first` without a break
unfoldable pub running : Float → Float → List Float → ℕ
running margin first [] = 0
running margin first (v ∷ values) = cond (is_near margin v first) (suc (running margin first values)) 0

-- how many values the set in front has: the first one, and those behind it that are near it
unfoldable pub set_len : Float → List Float → ℕ
set_len margin values = suc (running margin (get_or values 0 nan) (drop 1 values))

-- what `set_len` promises: that number, and that the set has a value at least
pub record SetLen (margin : Float) (values : List Float) (r : ℕ) : Type 0 where
  pub number : r ≡ set_len margin values
  pub some : 0 < r
  pub upto : r ≤ length values
