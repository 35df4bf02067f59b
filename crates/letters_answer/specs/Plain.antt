-- What the letters program printed before request 5/12, when it read letters alone. It is kept to say that for these
-- nothing has changed.
use Rattle.std.specs.Prelude.{ℕ, suc, cond, List, [], ◌∷◌, ◌++◌, ltb, length, decimal}
use Rattle.letters_grammar.specs.Letters.{line_feed, trimmed, is_letter, kinds_of}
use Rattle.letters_text.specs.Lines.{lines, long_line}
use Rattle.letters_answer.specs.Output.{columns}

-- the place of the first byte that is no letter; the length where all are letters
unfoldable pub first_bad : List ℕ → ℕ
first_bad [] = 0
first_bad (b ∷ bs) = cond (is_letter b) (suc (first_bad bs)) 0

-- `bad P` and a line feed
unfoldable pub bad_line : ℕ → List ℕ
bad_line p = (98 ∷ 97 ∷ 100 ∷ 32 ∷ []) ++ (decimal p ++ line_feed ∷ [])

-- for a trimmed text: `long` over 1,024 bytes, or the first byte that is no letter, or the lines of the letters
unfoldable pub plain_printed : List ℕ → List ℕ
plain_printed t =
    cond (ltb 1024 (length t)) long_line
    (cond (ltb (first_bad t) (length t)) (bad_line (first_bad t)) (lines (columns (kinds_of t))))

unfoldable pub plain_output : List ℕ → List ℕ
plain_output text = plain_printed (trimmed text)
