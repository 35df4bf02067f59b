-- Inputs and what they are, as one list: the definitions compute to each answer and its objects. The request's examples are among them.
use mathlib.Core.Path.{◌≡◌, refl}
use mathlib.Core.List.{List, [], ◌∷◌, ◌++◌, map}
use Prim.Native.Nat.{ℕ}
use lib.ListN.{replicate}
use Rattle.letters_grammar.specs.Letters.{trimmed, is_digit, is_letter, kind_of, exchanged_kind, exchanged_if}
use Rattle.letters_grammar.specs.Grammar.{copies}
use Rattle.letters_grammar.specs.Reading.{digit_first, exchanged, repeated, at_closing, ended, at_end, follow}
use Rattle.letters_grammar.specs.Reading.{at_objects, at_opening, at_item, at_free, at_count, at_after, at_tens, step, run, shorthand}
use Rattle.letters_shorthand.specs.Input.{Input, input_of, objects_read, Answer, too_long, refused_at, so_many, answer_of}

record Example : Type 0 where
  input : List ℕ
  answer : Answer
  objects : List ℕ

-- an input that has no objects
bare : List ℕ → Answer → Example
bare input answer = record { input = input; answer = answer; objects = [] }

given : List ℕ → List ℕ → ℕ → Example
given input objects n = record { input = input; answer = so_many n; objects = objects }

examples : List Example
examples =
    -- nothing, and a line feed alone
    bare [] (so_many 0)
    ∷ bare (10 ∷ []) (so_many 0)
    -- `dkn` and a line feed
    ∷ given (100 ∷ 107 ∷ 110 ∷ 10 ∷ []) (0 ∷ 1 ∷ 2 ∷ []) 3
    -- how far a ~ reaches: `~dk`, `~(dk)2`
    ∷ given (126 ∷ 100 ∷ 107 ∷ []) (1 ∷ 1 ∷ []) 2
    ∷ given (126 ∷ 40 ∷ 100 ∷ 107 ∷ 41 ∷ 50 ∷ []) (1 ∷ 0 ∷ 1 ∷ 0 ∷ []) 4
    -- `(dk)8~(ddk)2`
    ∷ given (40 ∷ 100 ∷ 107 ∷ 41 ∷ 56 ∷ 126 ∷ 40 ∷ 100 ∷ 100 ∷ 107 ∷ 41 ∷ 50 ∷ [])
    (copies 8 (0 ∷ 1 ∷ []) ++ 1 ∷ 1 ∷ 0 ∷ 1 ∷ 1 ∷ 0 ∷ []) 22
    -- `(dk)2~(ddk)2` is `dkdkkkdkkd`
    ∷ given (40 ∷ 100 ∷ 107 ∷ 41 ∷ 50 ∷ 126 ∷ 40 ∷ 100 ∷ 100 ∷ 107 ∷ 41 ∷ 50 ∷ []) (0 ∷ 1 ∷ 0 ∷ 1 ∷ 1 ∷ 1 ∷ 0 ∷ 1 ∷ 1 ∷ 0 ∷ []) 10
    -- `~n~~d10`
    ∷ given (126 ∷ 110 ∷ 126 ∷ 126 ∷ 100 ∷ 49 ∷ 48 ∷ []) (2 ∷ replicate 10 0) 11
    -- `d` and two line feeds, `x`, `d1`, `d02`, `d123`, `()`, `(d`, `d)`, `~`
    ∷ bare (100 ∷ 10 ∷ 10 ∷ []) (refused_at 12 1)
    ∷ bare (120 ∷ []) (refused_at 12 0)
    ∷ bare (100 ∷ 49 ∷ []) (refused_at 12 2)
    ∷ bare (100 ∷ 48 ∷ 50 ∷ []) (refused_at 12 1)
    ∷ bare (100 ∷ 49 ∷ 50 ∷ 51 ∷ []) (refused_at 12 3)
    ∷ bare (40 ∷ 41 ∷ []) (refused_at 12 1)
    ∷ bare (40 ∷ 100 ∷ []) (refused_at 12 2)
    ∷ bare (100 ∷ 41 ∷ []) (refused_at 12 1)
    ∷ bare (126 ∷ []) (refused_at 12 1)
    -- 16 brackets are good, 17 are not
    ∷ given (replicate 16 40 ++ 100 ∷ replicate 16 41) (0 ∷ []) 1
    ∷ bare (replicate 17 40 ++ 100 ∷ replicate 17 41) (refused_at 14 16)
    -- `(d99)10` has 990 objects, `(d32)32` has 1,024; `(d32)32d` and `(d41)25` have one more
    ∷ given (40 ∷ 100 ∷ 57 ∷ 57 ∷ 41 ∷ 49 ∷ 48 ∷ []) (replicate 990 0) 990
    ∷ given (40 ∷ 100 ∷ 51 ∷ 50 ∷ 41 ∷ 51 ∷ 50 ∷ []) (replicate 1024 0) 1024
    ∷ bare (40 ∷ 100 ∷ 51 ∷ 50 ∷ 41 ∷ 51 ∷ 50 ∷ 100 ∷ []) (refused_at 13 7)
    ∷ bare (40 ∷ 100 ∷ 52 ∷ 49 ∷ 41 ∷ 50 ∷ 53 ∷ []) (refused_at 13 6)
    -- 4,097 bytes, with a line feed behind them
    ∷ bare (replicate 4097 65 ++ 10 ∷ []) too_long
    ∷ []

computed : List ℕ → Example
computed input =
    let i : Input = input_of (trimmed input) in
    record { input = input; answer = answer_of i; objects = objects_read i }

examples_right : map (λ (e : Example). computed e.input) examples ≡ examples
unfolding bare given examples computed is_digit is_letter kind_of exchanged_kind exchanged_if copies digit_first exchanged repeated at_closing ended at_end
    follow at_objects at_opening at_item at_free at_count at_after at_tens step run shorthand trimmed input_of answer_of objects_read
examples_right = refl
