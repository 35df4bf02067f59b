-- Texts and what the reading finds in them, at the program's limits: the definition computes to each. The rows of request 5/12 are among them.
use mathlib.Core.Path.{◌≡◌, refl}
use mathlib.Core.List.{List, [], ◌∷◌, ◌++◌, map}
use Prim.Native.Nat.{ℕ}
use lib.ListN.{replicate}
use Rattle.letters_grammar.specs.Letters.{is_digit, is_letter, kind_of, exchanged_kind, exchanged_if}
use Rattle.letters_grammar.specs.Grammar.{copies}
use Rattle.letters_grammar.specs.Reading.{Finding, good, refused, digit_first, exchanged, repeated, at_closing, ended, at_end, follow}
use Rattle.letters_grammar.specs.Reading.{at_objects, at_opening, at_item, at_free, at_count, at_after, at_tens, step, run, shorthand}

record Example : Type 0 where
  text : List ℕ
  found : Finding

-- good texts, with their kinds
taken : List Example
taken =
    -- nothing
    record { text = []; found = good ([]) }
    -- `~dk`
    ∷ record { text = 126 ∷ 100 ∷ 107 ∷ []; found = good (1 ∷ 1 ∷ []) }
    -- `~(dk)2`
    ∷ record { text = 126 ∷ 40 ∷ 100 ∷ 107 ∷ 41 ∷ 50 ∷ []; found = good (1 ∷ 0 ∷ 1 ∷ 0 ∷ []) }
    -- `~~d`
    ∷ record { text = 126 ∷ 126 ∷ 100 ∷ []; found = good (0 ∷ []) }
    -- `(dk)2~(ddk)2`
    ∷ record { text = 40 ∷ 100 ∷ 107 ∷ 41 ∷ 50 ∷ 126 ∷ 40 ∷ 100 ∷ 100 ∷ 107 ∷ 41 ∷ 50 ∷ []; found = good (0 ∷ 1 ∷ 0 ∷ 1 ∷ 1 ∷ 1 ∷ 0 ∷ 1 ∷ 1 ∷ 0 ∷ []) }
    -- `d2k3n`
    ∷ record { text = 100 ∷ 50 ∷ 107 ∷ 51 ∷ 110 ∷ []; found = good (0 ∷ 0 ∷ 1 ∷ 1 ∷ 1 ∷ 2 ∷ []) }
    -- `((dk)2n)2`
    ∷ record { text = 40 ∷ 40 ∷ 100 ∷ 107 ∷ 41 ∷ 50 ∷ 110 ∷ 41 ∷ 50 ∷ []; found = good (0 ∷ 1 ∷ 0 ∷ 1 ∷ 2 ∷ 0 ∷ 1 ∷ 0 ∷ 1 ∷ 2 ∷ []) }
    -- `d12`
    ∷ record { text = 100 ∷ 49 ∷ 50 ∷ []; found = good (replicate 12 0) }
    ∷ []

-- refused ones, with number and place
wrong : List Example
wrong =
    -- `d1`
    record { text = 100 ∷ 49 ∷ []; found = refused 12 2 }
    -- `d1d`
    ∷ record { text = 100 ∷ 49 ∷ 100 ∷ []; found = refused 12 2 }
    -- `d1(`
    ∷ record { text = 100 ∷ 49 ∷ 40 ∷ []; found = refused 12 2 }
    -- `d0`
    ∷ record { text = 100 ∷ 48 ∷ []; found = refused 12 1 }
    -- `d05`
    ∷ record { text = 100 ∷ 48 ∷ 53 ∷ []; found = refused 12 1 }
    -- `d100`
    ∷ record { text = 100 ∷ 49 ∷ 48 ∷ 48 ∷ []; found = refused 12 3 }
    -- `d234`
    ∷ record { text = 100 ∷ 50 ∷ 51 ∷ 52 ∷ []; found = refused 12 3 }
    -- `()`
    ∷ record { text = 40 ∷ 41 ∷ []; found = refused 12 1 }
    -- `~)`
    ∷ record { text = 126 ∷ 41 ∷ []; found = refused 12 1 }
    -- `~2`
    ∷ record { text = 126 ∷ 50 ∷ []; found = refused 12 1 }
    -- `)`
    ∷ record { text = 41 ∷ []; found = refused 12 0 }
    -- `2d`
    ∷ record { text = 50 ∷ 100 ∷ []; found = refused 12 0 }
    -- `(d`
    ∷ record { text = 40 ∷ 100 ∷ []; found = refused 12 2 }
    -- `~()`
    ∷ record { text = 126 ∷ 40 ∷ 41 ∷ []; found = refused 12 2 }
    -- `~d~`
    ∷ record { text = 126 ∷ 100 ∷ 126 ∷ []; found = refused 12 3 }
    -- `d` and a line feed
    ∷ record { text = 100 ∷ 10 ∷ []; found = refused 12 1 }
    -- `(d99)11`
    ∷ record { text = 40 ∷ 100 ∷ 57 ∷ 57 ∷ 41 ∷ 49 ∷ 49 ∷ []; found = refused 13 6 }
    -- `(d99)99x`
    ∷ record { text = 40 ∷ 100 ∷ 57 ∷ 57 ∷ 41 ∷ 57 ∷ 57 ∷ 120 ∷ []; found = refused 13 6 }
    -- `(d99)9x`
    ∷ record { text = 40 ∷ 100 ∷ 57 ∷ 57 ∷ 41 ∷ 57 ∷ 120 ∷ []; found = refused 12 6 }
    -- `(d99d99)6x`
    ∷ record { text = 40 ∷ 100 ∷ 57 ∷ 57 ∷ 100 ∷ 57 ∷ 57 ∷ 41 ∷ 54 ∷ 120 ∷ []; found = refused 13 8 }
    -- `(d99d99)60`
    ∷ record { text = 40 ∷ 100 ∷ 57 ∷ 57 ∷ 100 ∷ 57 ∷ 57 ∷ 41 ∷ 54 ∷ 48 ∷ []; found = refused 13 9 }
    -- `((d32)32)1`
    ∷ record { text = 40 ∷ 40 ∷ 100 ∷ 51 ∷ 50 ∷ 41 ∷ 51 ∷ 50 ∷ 41 ∷ 49 ∷ []; found = refused 12 10 }
    -- 17 brackets
    ∷ record { text = replicate 17 40; found = refused 14 16 }
    -- 16 brackets and x
    ∷ record { text = replicate 16 40 ++ 120 ∷ []; found = refused 12 16 }
    ∷ []

computed_right : map (λ (e : Example). shorthand 1024 16 e.text) (taken ++ wrong) ≡ map (λ (e : Example). e.found) (taken ++ wrong)
unfolding taken wrong is_digit is_letter kind_of exchanged_kind exchanged_if copies digit_first exchanged repeated at_closing ended at_end follow
    at_objects at_opening at_item at_free at_count at_after at_tens step run shorthand
computed_right = refl
