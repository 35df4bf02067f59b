-- What a reader asks, and what it promises of where it stopped; and the count at a place.
use Rattle.std.specs.Prelude.{ℕ, ◌+◌, ◌-◌, ◌*◌, ◌≤◌, ◌≡◌, cond, List, eqb, leb, length, take, drop, get_or}
use Rattle.std.specs.Prelude.{Option, Some, None, Result, Ok, Err}
use Rattle.letters_grammar.specs.Letters.{zero_byte, is_digit}
use Rattle.letters_grammar.specs.Reading.{Bracket, Mode, free, after, Finding, refused, run}
use Rattle.letters_grammar.specs.Reading.{most_objects, most_brackets}
use Rattle.letters_count.specs.declared.Cursor.{Cursor}
use Rattle.letters_count.specs.declared.Fault.{Fault}
use Rattle.letters_count.specs.declared.Fault.TheVariants.{Misplaced}
use Rattle.letters_count.specs.declared.Refusal.{Refusal}
use Rattle.letters_count.specs.declared.Times.{Times}
use Rattle.letters_count.specs.Numbers.{number_of}

-- what a reader answers: the place after what it read, or the first refusal
abbrev pub Read : Type 0
Read = Result Cursor Refusal

-- a cursor within the text, and room for the most objects
pub record Room (s kinds : List ℕ) (c : Cursor) : Type 0 where
  pub place : c.at ≤ length s
  pub few : c.count ≤ most_objects
  pub room : most_objects ≤ length kinds

-- the reading of s from a cursor on, where the objects so far are the front of the kinds
abbrev pub from : List ℕ → Cursor → List Bracket → Mode → List ℕ → Finding
from s c fs m kinds = run most_objects most_brackets (drop c.at s) c.at fs m (take c.count kinds)

-- the reading of s behind what a reader read
abbrev pub goes_on : List ℕ → List Bracket → List ℕ → Read → Finding
goes_on s fs kinds (Ok c) = from s c fs free kinds
goes_on s fs kinds (Err r) = refused (number_of r.fault) r.place

-- d is k bytes behind c, or more
pub record Reached (s : List ℕ) (k : ℕ) (c d : Cursor) : Type 0 where
  pub later : c.at + k ≤ d.at
  pub place : d.at ≤ length s
  pub more : c.count ≤ d.count
  pub few : d.count ≤ most_objects

abbrev pub Later : List ℕ → ℕ → Cursor → Read → Type 0
Later s k c (Ok d) = Reached s k c d
Later s k c (Err r) = Unit {0}

-- a count was read at c, or none, for the objects from i on
pub record CountRead (s old new : List ℕ) (c : Cursor) (i : ℕ) (r : Read) : Type 0 where
  pub later : Later s 0 c r
  pub same : (fs : List Bracket) → from s c fs (after i) old ≡ goes_on s fs new r

-- ---- counts

-- the digit at a place
unfoldable pub digit_at : List ℕ → ℕ → Option ℕ
digit_at s p = cond (leb (length s) p) None (cond (is_digit (get_or s p 0)) (Some (get_or s p 0 - zero_byte)) None)

abbrev pub refusal : Fault → ℕ → Refusal
refusal f p = record { fault = f; place = p }

abbrev pub times : ℕ → ℕ → Times
times n p = record { count = n; last = p }

-- the count at a place whose first digit is no 0, by the digit behind it
unfoldable pub count_behind : ℕ → ℕ → Option ℕ → Result (Option Times) Refusal
count_behind p a (Some b) = Ok (Some (times (10 * a + b) (p + 1)))
count_behind p a None = cond (eqb a 1) (Err (refusal Misplaced (p + 1))) (Ok (Some (times a p)))

-- the count at a place, by the digits there and behind it
unfoldable pub count_by : ℕ → Option ℕ → Option ℕ → Result (Option Times) Refusal
unfolding count_behind
count_by p None b = Ok None
count_by p (Some a) b = cond (eqb a 0) (Err (refusal Misplaced p)) (count_behind p a b)

unfoldable pub count_at : List ℕ → ℕ → Result (Option Times) Refusal
unfolding digit_at count_by
count_at s p = count_by p (digit_at s p) (digit_at s (p + 1))

-- the objects from `start` to `end` have room n times
pub record Repeating (start end n room : ℕ) : Type 0 where
  pub order : start ≤ end
  pub some : 1 ≤ n
  pub fits : start + n * (end - start) ≤ room
