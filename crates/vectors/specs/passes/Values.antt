-- What the values of a column are, by how many bytes each has.
use Rattle.std.specs.Prelude.{ℕ, ◌+◌, ◌*◌, cond, List, eqb, get_or}
use Rattle.lent.specs.Scan.{tabulate}
use Rattle.vectors.specs.Case.{pair_at, word_at}
use Rattle.vectors.specs.declared.column.Width.{Width}
use Rattle.vectors.specs.declared.column.Width.TheVariants.{One, Two, Eight}

abbrev pub bytes_of : Width → ℕ
bytes_of One = 1
bytes_of Two = 2
bytes_of Eight = 8

-- the width of the numbers of a case whose head says so many bytes
unfoldable pub width_of : ℕ → Width
width_of said = cond (eqb said 1) One Two

-- value i of a column that begins at a place
unfoldable pub value_at : List ℕ → ℕ → Width → ℕ → ℕ
value_at s at One i = get_or s (at + i) 0
value_at s at Two i = pair_at s (at + 2 * i)
value_at s at Eight i = word_at s (at + 8 * i)

-- n of them
unfoldable pub values : List ℕ → ℕ → Width → ℕ → List ℕ
values s at width n = tabulate (value_at s at width) n
