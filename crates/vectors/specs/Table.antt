-- Floats that are stored by their bits: in turn, or named by their numbers in a table of distinct ones.
use Rattle.std.specs.Prelude.{List, ℕ, get_or, length, Float}
use Rattle.std.specs.Float.{binary64}
use Rattle.std.specs.Float.Ieee.{of_bits}
use Rattle.lent.specs.Scan.{tabulate}

-- float i of a list of bits
unfoldable pub float_at : List ℕ → ℕ → Float
float_at bits i = of_bits binary64 (get_or bits i 0)

-- all of them
unfoldable pub floats : List ℕ → List Float
floats bits = tabulate (float_at bits) (length bits)

-- the one of a table of bits that name i means
unfoldable pub entry_at : List ℕ → List ℕ → ℕ → Float
entry_at table names i = float_at table (get_or names i 0)

-- one for each name
unfoldable pub entries : List ℕ → List ℕ → List Float
entries table names = tabulate (entry_at table names) (length names)
