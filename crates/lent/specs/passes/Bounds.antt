-- What a look-up asks of the numbers by which it reads a table.
use Rattle.std.specs.Prelude.{ℕ, ◌<◌, List, length, get_or}

-- every number of a list is below k
abbrev pub AllBelow : List ℕ → ℕ → Type 0
AllBelow xs k = (i : ℕ) → i < length xs → get_or xs i 0 < k
