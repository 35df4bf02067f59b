-- A stored case: what its bytes say.
use Rattle.std.specs.Prelude.{ℕ, zero, suc, ◌+◌, ◌*◌, cond, List, [], ◌∷◌, ◌++◌, eqb, get_or}
use Rattle.lent.specs.Scan.{tabulate}
use Rattle.vectors.specs.Call.{call_of}
use Rattle.vectors.specs.declared.case.Head.{Head}

-- n bytes from a place on
unfoldable pub bytes_at : List ℕ → ℕ → ℕ → List ℕ
bytes_at s at zero = []
bytes_at s at (suc n) = bytes_at s at n ++ (get_or s (at + n) 0 ∷ [])

-- two bytes, the low one first
abbrev pub pair : ℕ → ℕ → ℕ
pair low high = low + 256 * high

-- two bytes at a place
unfoldable pub pair_at : List ℕ → ℕ → ℕ
pair_at s at = pair (get_or s at 0) (get_or s (at + 1) 0)

-- four bytes at a place
unfoldable pub quad_at : List ℕ → ℕ → ℕ
quad_at s at = pair_at s at + 65536 * pair_at s (at + 2)

-- eight bytes at a place
unfoldable pub word_at : List ℕ → ℕ → ℕ
word_at s at = quad_at s at + 4294967296 * quad_at s (at + 4)

-- the head: call, width, objects in two bytes, size of the body in four
unfoldable pub head_of : List ℕ → Head
head_of s = record { call = call_of (get_or s 0 0); width = get_or s 1 0; objects = pair_at s 2; size = quad_at s 4 }

-- ---- columns, each of which begins at a place

-- how many bytes a column of n numbers has
unfoldable pub column_size : ℕ → ℕ → ℕ
column_size n width = cond (eqb width 1) n (2 * n)

-- number i of a column whose numbers have one byte or, for any other width, two
unfoldable pub number_at : List ℕ → ℕ → ℕ → ℕ → ℕ
number_at s at width i = cond (eqb width 1) (get_or s (at + i) 0) (pair_at s (at + 2 * i))

-- n of them
unfoldable pub column : List ℕ → ℕ → ℕ → ℕ → List ℕ
column s at width n = tabulate (number_at s at width) n

-- word i of a column of words
unfoldable pub column_word : List ℕ → ℕ → ℕ → ℕ
column_word s at i = word_at s (at + 8 * i)

-- n of them
unfoldable pub words : List ℕ → ℕ → ℕ → List ℕ
words s at n = tabulate (column_word s at) n
