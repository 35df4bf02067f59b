-- What the functions ask of the columns that are lent, and of the room behind what is printed so far.
use Rattle.std.specs.Prelude.{ℕ, ◌+◌, ◌*◌, ◌≤◌, ◌<◌, length, get_or}
use Rattle.letters_text.specs.Lines.{Columns}

-- the intervals have at most two digits, so that five bytes an object, behind the `used` ones, are room enough
pub record LinesFit (c : Columns) (used room : ℕ) : Type 0 where
  pub small : (i : ℕ) → i < length c.kinds → get_or c.intervals i 0 < 100
  pub enough : used + 5 * length c.kinds ≤ room
