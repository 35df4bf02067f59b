-- What the letters program reads, by the scope's paragraph on it as request 5/12 amends it: the text of a drill, and
-- behind it one line feed that counts for nothing. A text that is too long is told as that, whatever its bytes are.
use Rattle.std.specs.Prelude.{◌≡◌, ℕ, ◌+◌, cond, List, [], ltb, length, Result, Ok, Err}
use Rattle.lent.specs.Over.{over}
use Rattle.letters_grammar.specs.Reading.{Finding, good, refused, shorthand, most_objects, most_brackets}
use Rattle.letters_count.specs.Numbers.{number_of}
use Rattle.letters_shorthand.specs.declared.InputError.{InputError}
use Rattle.letters_shorthand.specs.declared.InputError.TheVariants.{Long, Refused}

-- the most bytes of a text
abbrev pub most_bytes : ℕ
most_bytes = 4096

-- what a trimmed text is: too long, or what the reading finds
pub data Input : Type 0 where
  long : Input
  read : Finding → Input

unfoldable pub input_of : List ℕ → Input
input_of t = cond (ltb most_bytes (length t)) long (read (shorthand most_objects most_brackets t))

-- the objects read; none where the text is too long or refused
unfoldable pub objects_read : Input → List ℕ
objects_read long = []
objects_read (read (refused n p)) = []
objects_read (read (good kinds)) = kinds

-- what is answered: too long, refused by a number at a place, or so many objects
pub data Answer : Type 0 where
  too_long : Answer
  refused_at : ℕ → ℕ → Answer
  so_many : ℕ → Answer

unfoldable pub answer_of : Input → Answer
answer_of long = too_long
answer_of (read (refused n p)) = refused_at n p
answer_of (read (good kinds)) = so_many (length kinds)

-- the answer that a result is
abbrev pub told : Result ℕ InputError → Answer
told (Err Long) = too_long
told (Err (Refused r)) = refused_at (number_of r.fault) r.place
told (Ok n) = so_many n

-- the reading of the trimmed text t: the objects stand over the front of the lent memory, whose other places are as
-- lent
pub record ReadDrill (t old new : List ℕ) (r : Result ℕ InputError) : Type 0 where
  pub answer : told r ≡ answer_of (input_of t)
  pub memory : new ≡ over (objects_read (input_of t)) old

-- so many bytes of an input tell all that is printed for it: the longest text, a line feed, and a byte more, which
-- tells a longer one
abbrev pub input_bytes : ℕ
input_bytes = most_bytes + 2
