-- The grammar of a drill, by request 5/12, as trees, each with its text and its objects:
--   text = sequence; sequence = nothing | item sequence; item = ~ item | primary | primary count;
--   primary = d | k | n | ( item sequence ); count = 2..9 | 1..9 and then 0..9.
-- A ~ reaches over one letter or bracket, with its count, and no further; a count over its own letter or bracket alone.
use Rattle.std.specs.Prelude.{ℕ, zero, suc, ◌+◌, ◌-◌, ◌/◌, ◌%◌, ◌≤◌, ◌<◌, ◌≡◌, eqb, ltb, cond}
use Rattle.std.specs.Prelude.{List, [], ◌∷◌, ◌++◌, map, length}
use Rattle.letters_grammar.specs.Letters.{opening_byte, closing_byte, tilde_byte, zero_byte, exchanged_kind}

-- d, k and n
pub data Letter : Type 0 where
  center : Letter
  rim : Letter
  non_hit : Letter

-- A count is 1 where none is written. A bracket holds an item and those that follow it, so it is never empty.
mutual
  pub data Item : Type 0 where
    letter : Letter → ℕ → Item
    bracket : Item → Sequence → ℕ → Item
    exchange : Item → Item

  pub data Sequence : Type 0 where
    none : Sequence
    then : Item → Sequence → Sequence

-- ---- counts are from 1 to 99

pub record Count (n : ℕ) : Type 0 where
  pub some : 1 ≤ n
  pub few : n < 100

unfoldable mutual
  pub ItemCounts : Item → Type 0
  ItemCounts (letter l n) = Count n
  ItemCounts (bracket i s n) = (ItemCounts i × Counts s) × Count n
  ItemCounts (exchange i) = ItemCounts i

  pub Counts : Sequence → Type 0
  Counts none = Unit {0}
  Counts (then i s) = ItemCounts i × Counts s

-- ---- the text

unfoldable pub letter_text : Letter → ℕ
letter_text center = 100
letter_text rim = 107
letter_text non_hit = 110

unfoldable pub count_text : ℕ → List ℕ
count_text n =
    cond (eqb n 1) [] (cond (ltb n 10) ((n + zero_byte) ∷ []) ((n / 10 + zero_byte) ∷ (n % 10 + zero_byte) ∷ []))

unfoldable mutual
  pub item_text : Item → List ℕ
  item_text (letter l n) = letter_text l ∷ count_text n
  item_text (bracket i s n) = opening_byte ∷ ((item_text i ++ sequence_text s) ++ (closing_byte ∷ count_text n))
  item_text (exchange i) = tilde_byte ∷ item_text i

  pub sequence_text : Sequence → List ℕ
  sequence_text none = []
  sequence_text (then i s) = item_text i ++ sequence_text s

-- ---- the objects, by their kinds

unfoldable pub letter_kind : Letter → ℕ
letter_kind center = 0
letter_kind rim = 1
letter_kind non_hit = 2

-- n times, one after the other
unfoldable pub copies : ℕ → List ℕ → List ℕ
copies zero xs = []
copies (suc n) xs = copies n xs ++ xs

unfoldable mutual
  pub item_kinds : Item → List ℕ
  item_kinds (letter l n) = copies n (letter_kind l ∷ [])
  item_kinds (bracket i s n) = copies n (item_kinds i ++ sequence_kinds s)
  item_kinds (exchange i) = map exchanged_kind (item_kinds i)

  pub sequence_kinds : Sequence → List ℕ
  sequence_kinds none = []
  sequence_kinds (then i s) = item_kinds i ++ sequence_kinds s

-- ---- brackets stand at most d deep

unfoldable mutual
  pub ItemDepth : Item → ℕ → Type 0
  ItemDepth (letter l n) d = Unit {0}
  ItemDepth (bracket i s n) d = (1 ≤ d) × (ItemDepth i (d - 1) × Depth s (d - 1))
  ItemDepth (exchange i) d = ItemDepth i d

  pub Depth : Sequence → ℕ → Type 0
  Depth none d = Unit {0}
  Depth (then i s) d = ItemDepth i d × Depth s d

-- ---- texts of the grammar

-- t is a text of the grammar, of any size and depth, and these are its objects
pub record Drill (t kinds : List ℕ) : Type 0 where
  pub tree : Sequence
  pub counts : Counts tree
  pub written : sequence_text tree ≡ t
  pub means : sequence_kinds tree ≡ kinds

-- the same with at most so many objects, and brackets at most so deep
pub record DrillWithin (objects depth : ℕ) (t kinds : List ℕ) : Type 0 where
  pub drill : Drill t kinds
  pub few : length kinds ≤ objects
  pub flat : Depth drill.tree depth

-- some text of the grammar, of any size and depth, begins with t
pub record Viable (t : List ℕ) : Type 0 where
  pub rest : List ℕ
  pub kinds : List ℕ
  pub drill : Drill (t ++ rest) kinds
