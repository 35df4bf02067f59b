-- The reading of a text byte by byte, by request 5/12. What the bytes so far leave is kept as the open brackets, what
-- may follow, and the kinds of the objects so far; a byte moves that on, or is refused by its number. Of the byte
-- behind it one thing is asked, whether it is a digit: so a count's first digit is known to be its last.
use Rattle.std.specs.Prelude.{ℕ, ◌+◌, ◌-◌, ◌*◌, Bool, false, not, ◌||◌, eqb, ltb, leb, length, take, drop}
use Rattle.std.proofs.Math.Bool.{cond}
use mathlib.Core.List.{List, [], ◌∷◌, ◌++◌}
use Rattle.letters_grammar.specs.Letters.{opening_byte, closing_byte, tilde_byte, zero_byte}
use Rattle.letters_grammar.specs.Letters.{is_digit, is_letter, kind_of, exchanged_if}
use Rattle.letters_grammar.specs.Grammar.{copies}

-- an open bracket: how many objects stand before it, and whether d and k are exchanged inside it
pub record Bracket : Type 0 where
  pub start : ℕ
  pub swapped : Bool

-- what may follow
pub data Mode : Type 0 where
  -- an item must, with d and k exchanged or not
  need : Bool → Mode
  -- an item, a closing bracket or the end
  free : Mode
  -- the same, or a count for the objects from this one on
  after : ℕ → Mode
  -- the second digit of a count must: for the objects from this one on, with this first digit
  tens : ℕ → ℕ → Mode

-- what a byte does: the reading moves on, or the byte is refused
pub data Move : Type 0 where
  moves : List Bracket → Mode → List ℕ → Move
  refuses : ℕ → Move

-- what a text is: these objects, or a refusal's number and place
pub data Finding : Type 0 where
  good : List ℕ → Finding
  refused : ℕ → ℕ → Finding

unfoldable pub digit_first : List ℕ → Bool
unfolding is_digit
digit_first [] = false
digit_first (b ∷ bs) = is_digit b

-- whether d and k are exchanged in the innermost open bracket
unfoldable pub exchanged : List Bracket → Bool
exchanged [] = false
exchanged (f ∷ fs) = f.swapped

-- the objects from place i on n times
unfoldable pub repeated : ℕ → ℕ → List ℕ → List ℕ
unfolding copies
repeated n i ks = take i ks ++ copies n (drop i ks)

-- a closing bracket: none without an open one
unfoldable pub at_closing : List Bracket → List ℕ → Move
at_closing [] ks = refuses 12
at_closing (f ∷ fs) ks = moves fs (after f.start) ks

-- the end of the text: no bracket may be open
unfoldable pub ended : ℕ → List Bracket → List ℕ → Finding
ended p [] ks = good ks
ended p (f ∷ fs) ks = refused 12 p

unfoldable pub at_end : ℕ → List Bracket → Mode → List ℕ → Finding
unfolding ended
at_end p fs (need q) ks = refused 12 p
at_end p fs free ks = ended p fs ks
at_end p fs (after i) ks = ended p fs ks
at_end p fs (tens i t) ks = refused 12 p

-- the rest is read from the next place on, or the refusal is of this one
unfoldable pub follow : Move → ℕ → (ℕ → List Bracket → Mode → List ℕ → Finding) → Finding
follow (moves fs m ks) p rest = rest (p + 1) fs m ks
follow (refuses n) p rest = refused n p

-- the most objects, and the most open brackets
module _ (objects depth : ℕ) where
  -- the objects are now these, unless they are too many
  unfoldable pub at_objects : List Bracket → Mode → List ℕ → Move
  at_objects fs m ks = cond (ltb objects (length ks)) (refuses 13) (moves fs m ks)

  unfoldable pub at_opening : List Bracket → Bool → List ℕ → Move
  at_opening fs q ks =
      cond (leb depth (length fs)) (refuses 14) (moves (record { start = length ks; swapped = q } ∷ fs) (need q) ks)

  -- where an item must follow
  unfoldable pub at_item : ℕ → List Bracket → Bool → List ℕ → Move
  unfolding at_objects at_opening is_letter kind_of exchanged_if
  at_item b fs q ks =
      cond (eqb b tilde_byte) (moves fs (need (not q)) ks)
      (cond (eqb b opening_byte) (at_opening fs q ks)
      (cond (is_letter b) (at_objects fs (after (length ks)) (ks ++ exchanged_if q (kind_of b ∷ [])))
      (refuses 12)))

  unfoldable pub at_free : ℕ → List Bracket → List ℕ → Move
  unfolding at_item at_closing exchanged
  at_free b fs ks = cond (eqb b closing_byte) (at_closing fs ks) (at_item b fs (exchanged fs) ks)

  -- the last digit of a count
  unfoldable pub at_count : ℕ → ℕ → List Bracket → List ℕ → Move
  unfolding at_objects repeated
  at_count n i fs ks = at_objects fs free (repeated n i ks)

  -- where a count may follow; `more` says that a digit stands behind the byte
  unfoldable pub at_after : Bool → ℕ → ℕ → List Bracket → List ℕ → Move
  unfolding is_digit at_count at_free
  at_after more b i fs ks =
      cond (is_digit b)
      (cond (eqb b zero_byte) (refuses 12)
      (cond (eqb b 49 || more) (moves fs (tens i (b - zero_byte)) ks) (at_count (b - zero_byte) i fs ks)))
      (at_free b fs ks)

  unfoldable pub at_tens : ℕ → ℕ → ℕ → List Bracket → List ℕ → Move
  unfolding is_digit at_count
  at_tens b i t fs ks = cond (is_digit b) (at_count (10 * t + (b - zero_byte)) i fs ks) (refuses 12)

  -- one byte
  unfoldable pub step : Bool → ℕ → List Bracket → Mode → List ℕ → Move
  unfolding at_item at_free at_after at_tens
  step more b fs (need q) ks = at_item b fs q ks
  step more b fs free ks = at_free b fs ks
  step more b fs (after i) ks = at_after more b i fs ks
  step more b fs (tens i t) ks = at_tens b i t fs ks

  -- a text from a place on
  unfoldable pub run : List ℕ → ℕ → List Bracket → Mode → List ℕ → Finding
  unfolding step at_end follow digit_first
  run [] p fs m ks = at_end p fs m ks
  run (b ∷ bs) p fs m ks = follow (step (digit_first bs) b fs m ks) p (run bs)

  -- a whole text
  unfoldable pub shorthand : List ℕ → Finding
  unfolding run
  shorthand t = run t 0 [] free []

-- ---- the letters program's limits: the most objects, and the most open brackets

abbrev pub most_objects : ℕ
most_objects = 1024

abbrev pub most_brackets : ℕ
most_brackets = 16
