-- The bytes of a text of letters or of a drill, and the kinds of its letters: d is 0, k is 1, n is 2.
-- A text is a list of bytes. What is read is a text, and behind it one line feed that counts for nothing.
use Rattle.std.specs.Prelude.{ℕ, ◌≡◌, ◌-◌, Bool, true, false, cond, List, [], ◌∷◌, map, eqb, ltb, length, take, get_or}

abbrev pub line_feed : ℕ
line_feed = 10

-- without one line feed at the end
unfoldable pub trimmed : List ℕ → List ℕ
trimmed s = cond (eqb (get_or s (length s - 1) 0) line_feed) (take (length s - 1) s) s

-- ( ) and ~
abbrev pub opening_byte : ℕ
opening_byte = 40

abbrev pub closing_byte : ℕ
closing_byte = 41

abbrev pub tilde_byte : ℕ
tilde_byte = 126

-- the digit 0; the digit of a byte is what it is above this one
abbrev pub zero_byte : ℕ
zero_byte = 48

unfoldable pub is_digit : ℕ → Bool
is_digit b = cond (ltb b 48) false (ltb b 58)

-- d is 100, k is 107, n is 110
unfoldable pub is_letter : ℕ → Bool
is_letter b = cond (eqb b 100) true (cond (eqb b 107) true (eqb b 110))

-- a letter's kind
unfoldable pub kind_of : ℕ → ℕ
kind_of b = cond (eqb b 100) 0 (cond (eqb b 107) 1 2)

-- a kind's letter
unfoldable pub letter_of : ℕ → ℕ
letter_of k = cond (eqb k 0) 100 (cond (eqb k 1) 107 110)

-- t has letters alone
unfoldable pub LettersAlone : List ℕ → Type 0
LettersAlone [] = Unit {0}
LettersAlone (b ∷ t) = (is_letter b ≡ true) × LettersAlone t

-- the kinds of such a text
unfoldable pub kinds_of : List ℕ → List ℕ
unfolding kind_of
kinds_of t = map kind_of t

-- d for k and k for d; n stays
unfoldable pub exchanged_kind : ℕ → ℕ
exchanged_kind k = cond (eqb k 0) 1 (cond (eqb k 1) 0 k)

-- the same where q holds
unfoldable pub exchanged_if : Bool → List ℕ → List ℕ
unfolding exchanged_kind
exchanged_if q ks = cond q (map exchanged_kind ks) ks
