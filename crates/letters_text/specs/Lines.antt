-- What the letters program prints, by the scope's paragraph on it as request 5/12 amends it: a line for each hit
-- pattern of a drill, with its interval and its letters, among which `|` parts alternating patterns and `,` streaks; or
-- one line on a text that is refused or too long. No objects, no line.
use Rattle.std.specs.Prelude.{ℕ, cond, List, [], ◌∷◌, ◌++◌, eqb, length, get_or, decimal}
use Rattle.lent.specs.Scan.{tabulate}
use Rattle.letters_grammar.specs.Letters.{line_feed, letter_of}
use Rattle.letters_text.specs.declared.columns.Object.{Object}
use Rattle.letters_text.specs.declared.columns.Columns as lent

-- a line begins with the interval and a space
unfoldable pub line_head : Object → List ℕ
line_head o = decimal o.interval ++ 32 ∷ []

-- what stands between the letters of p and of o, the next object: where o opens a hit pattern a line feed and the next
-- line's head, else where it opens an alternating pattern `|`, else where it opens a streak `,`
unfoldable pub parting : Object → Object → List ℕ
unfolding line_head
parting p o =
    cond (eqb o.hit p.hit)
    (cond (eqb o.pattern p.pattern) (cond (eqb o.streak p.streak) [] (44 ∷ [])) (124 ∷ []))
    (line_feed ∷ line_head o)

-- the first object's letter, with its line's head
unfoldable pub first_letter : Object → List ℕ
unfolding line_head
first_letter o = line_head o ++ letter_of o.kind ∷ []

-- the letter of o, with what stands between p's letter and it
unfoldable pub next_letter : Object → Object → List ℕ
unfolding parting
next_letter p o = parting p o ++ letter_of o.kind ∷ []

-- what follows p's letter
unfoldable pub lines_after : Object → List Object → List ℕ
unfolding next_letter
lines_after p [] = line_feed ∷ []
lines_after p (o ∷ os) = next_letter p o ++ lines_after o os

unfoldable pub lines_of : List Object → List ℕ
unfolding first_letter lines_after
lines_of [] = []
lines_of (o ∷ os) = first_letter o ++ lines_after o os

-- the objects' numbers, as encode gives them: in each list one for each object
pub record Columns : Type 0 where
  pub kinds : List ℕ
  pub streaks : List ℕ
  pub patterns : List ℕ
  pub hits : List ℕ
  pub intervals : List ℕ

-- the columns that are lent
abbrev pub columns_of : lent.Columns → Columns
columns_of c = record {
  kinds = c.kinds.now;
  streaks = c.streak.now;
  patterns = c.pattern.now;
  hits = c.hit.now;
  intervals = c.interval.now;
}

unfoldable pub object_at : Columns → ℕ → Object
object_at c i = record {
  kind = get_or c.kinds i 0;
  streak = get_or c.streaks i 0;
  pattern = get_or c.patterns i 0;
  hit = get_or c.hits i 0;
  interval = get_or c.intervals i 0;
}

unfoldable pub objects : Columns → List Object
unfolding object_at
objects c = tabulate (object_at c) (length c.kinds)

unfoldable pub lines : Columns → List ℕ
unfolding objects lines_of
lines c = lines_of (objects c)

-- `no N P` and a line feed: a refusal's number, and its place
unfoldable pub refused_line : ℕ → ℕ → List ℕ
refused_line n p = (110 ∷ 111 ∷ 32 ∷ []) ++ (decimal n ++ 32 ∷ (decimal p ++ line_feed ∷ []))

-- `long` and a line feed
unfoldable pub long_line : List ℕ
long_line = 108 ∷ 111 ∷ 110 ∷ 103 ∷ line_feed ∷ []
