-- The lines of some objects, refusals and a text that is too long, and what is printed for them, as one list: the definitions compute to each output.
-- The scope's `dkkddk` is among them.
use mathlib.Core.Path.{◌≡◌, refl}
use mathlib.Core.List.{List, [], ◌∷◌, map}
use Prim.Native.Nat.{ℕ}
use Rattle.std.specs.Fmt.{digits}
use Rattle.lent.specs.Scan.{tabulate}
use Rattle.letters_grammar.specs.Letters.{letter_of}
use Rattle.letters_text.specs.Lines.{line_head, parting, first_letter, next_letter, lines_after, lines_of}
use Rattle.letters_text.specs.Lines.{object_at, objects, lines, refused_line, long_line}

record Example : Type 0 where
  computed : List ℕ
  output : List ℕ

examples : List Example
examples =
    -- no objects: nothing
    record { computed = lines (record { kinds = []; streaks = []; patterns = []; hits = []; intervals = [] }); output = [] }
    -- `d`: `17 d`
    ∷ record {
      computed = lines (record { kinds = 0 ∷ []; streaks = 0 ∷ []; patterns = 0 ∷ []; hits = 0 ∷ []; intervals = 17 ∷ [] });
      output = 49 ∷ 55 ∷ 32 ∷ 100 ∷ 10 ∷ [];
    }
    -- `dkkddk`: `17 d`, `17 kk,dd`, `2 k`
    ∷ record {
      computed = lines (record {
        kinds = 0 ∷ 1 ∷ 1 ∷ 0 ∷ 0 ∷ 1 ∷ [];
        streaks = 0 ∷ 1 ∷ 1 ∷ 2 ∷ 2 ∷ 3 ∷ [];
        patterns = 0 ∷ 1 ∷ 1 ∷ 1 ∷ 1 ∷ 2 ∷ [];
        hits = 0 ∷ 1 ∷ 1 ∷ 1 ∷ 1 ∷ 2 ∷ [];
        intervals = 17 ∷ 17 ∷ 17 ∷ 17 ∷ 17 ∷ 2 ∷ [];
      });
      output = 49 ∷ 55 ∷ 32 ∷ 100 ∷ 10 ∷ 49 ∷ 55 ∷ 32 ∷ 107 ∷ 107 ∷ 44 ∷ 100 ∷ 100 ∷ 10 ∷ 50 ∷ 32 ∷ 107 ∷ 10 ∷ [];
    }
    -- `dkkd`: `17 d|kk|d`
    ∷ record {
      computed = lines (record {
        kinds = 0 ∷ 1 ∷ 1 ∷ 0 ∷ [];
        streaks = 0 ∷ 1 ∷ 1 ∷ 2 ∷ [];
        patterns = 0 ∷ 1 ∷ 1 ∷ 2 ∷ [];
        hits = 0 ∷ 0 ∷ 0 ∷ 0 ∷ [];
        intervals = 17 ∷ 17 ∷ 17 ∷ 17 ∷ [];
      });
      output = 49 ∷ 55 ∷ 32 ∷ 100 ∷ 124 ∷ 107 ∷ 107 ∷ 124 ∷ 100 ∷ 10 ∷ [];
    }
    -- `no 12 0`, `no 13 1024`, `no 14 4096`
    ∷ record { computed = refused_line 12 0; output = 110 ∷ 111 ∷ 32 ∷ 49 ∷ 50 ∷ 32 ∷ 48 ∷ 10 ∷ [] }
    ∷ record { computed = refused_line 13 1024; output = 110 ∷ 111 ∷ 32 ∷ 49 ∷ 51 ∷ 32 ∷ 49 ∷ 48 ∷ 50 ∷ 52 ∷ 10 ∷ [] }
    ∷ record { computed = refused_line 14 4096; output = 110 ∷ 111 ∷ 32 ∷ 49 ∷ 52 ∷ 32 ∷ 52 ∷ 48 ∷ 57 ∷ 54 ∷ 10 ∷ [] }
    -- `long`
    ∷ record { computed = long_line; output = 108 ∷ 111 ∷ 110 ∷ 103 ∷ 10 ∷ [] }
    ∷ []

computed_right : map (λ (e : Example). e.computed) examples ≡ map (λ (e : Example). e.output) examples
unfolding examples tabulate letter_of digits line_head parting first_letter next_letter lines_after lines_of object_at objects lines refused_line long_line
computed_right = refl
