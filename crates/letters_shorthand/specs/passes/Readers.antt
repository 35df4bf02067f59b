-- What the readers promise: the reading of the whole goes on, from where a reader stopped, as it would have gone from
-- where it began, whatever brackets are open around it.
use Rattle.std.specs.Prelude.{ℕ, ◌<◌, ◌≡◌, Bool, true, List, length, take, get_or, Ok, Err}
use Rattle.letters_grammar.specs.Letters.{closing_byte, is_letter}
use Rattle.letters_grammar.specs.Reading.{Bracket, need, free, Finding, good, refused}
use Rattle.letters_grammar.specs.Reading.{exchanged, shorthand, most_objects, most_brackets}
use Rattle.letters_count.specs.declared.Cursor.{Cursor}
use Rattle.letters_count.specs.Numbers.{number_of}
use Rattle.letters_count.specs.passes.Counts.{Read, from, goes_on, Later}

-- ---- what a reader asks

-- the byte b stands at the cursor
pub record AtByte (s : List ℕ) (c : Cursor) (b : ℕ) : Type 0 where
  pub within : c.at < length s
  pub same : get_or s c.at 0 ≡ b

-- a letter stands at the cursor
pub record AtLetter (s : List ℕ) (c : Cursor) : Type 0 where
  pub within : c.at < length s
  pub letter : is_letter (get_or s c.at 0) ≡ true

-- ---- what a reader leaves

-- a sequence ends at a closing bracket or at the end of the text
unfoldable pub Stopped : List ℕ → Read → Type 0
Stopped s (Ok c) = (c.at < length s) → get_or s c.at 0 ≡ closing_byte
Stopped s (Err r) = Unit {0}

-- an item was read at c, inside so many brackets, with d and k exchanged or not
pub record ItemRead (s old new : List ℕ) (c : Cursor) (depth : ℕ) (q : Bool) (r : Read) : Type 0 where
  pub later : Later s 1 c r
  pub same : (fs : List Bracket) → length fs ≡ depth → from s c fs (need q) old ≡ goes_on s fs new r

-- a sequence was read at c
pub record SequenceRead (s old new : List ℕ) (c : Cursor) (depth : ℕ) (q : Bool) (r : Read) : Type 0 where
  pub later : Later s 0 c r
  pub stopped : Stopped s r
  pub same : (fs : List Bracket) → length fs ≡ depth → exchanged fs ≡ q → from s c fs free old ≡ goes_on s fs new r

-- what a text is found to be, where its objects are the front of the kinds
unfoldable pub finding_of : List ℕ → Read → Finding
finding_of kinds (Ok c) = good (take c.count kinds)
finding_of kinds (Err r) = refused (number_of r.fault) r.place

-- a whole text was read
pub record TextRead (t new : List ℕ) (r : Read) : Type 0 where
  pub later : Later t 0 (record { at = 0; count = 0 }) r
  pub found : shorthand most_objects most_brackets t ≡ finding_of new r
