-- A text of at most 1,024 letters, and nothing else, prints the same as before there was a shorthand.
use mathlib.Core.Path.{◌≡◌, refl, ap}
use mathlib.Core.List.{List, [], ◌∷◌}
use Prim.Native.Nat.{ℕ, suc, ◌≤◌}
use native.Mathlib.Omega.{arith}
use borrow.Author.Tests.{le-ltb}
use lib.ListN.{length}
use Rattle.letters_grammar.specs.Letters.{trimmed, LettersAlone}
use Rattle.letters_grammar.specs.Reading.{most_objects}
use Rattle.letters_grammar.proofs.PlainLaws.{alone_head, alone_tail}
use Rattle.letters_shorthand.proofs.InputLaws.{input_plain}
use Rattle.letters_answer.specs.Output.{printed, letters_output}
use Rattle.letters_answer.specs.Plain.{first_bad, plain_printed, plain_output}

bad_none : (t : List ℕ) → LettersAlone t → first_bad t ≡ length t
unfolding first_bad
bad_none [] a = refl
bad_none (b ∷ t) a = rw (alone_head b t a) (ap suc (bad_none t (alone_tail b t a)))

pub plain_same : (text : List ℕ) → LettersAlone (trimmed text) → length (trimmed text) ≤ most_objects → letters_output text ≡ plain_output text
unfolding letters_output printed plain_output plain_printed
plain_same text a h =
    let n : first_bad (trimmed text) ≡ length (trimmed text) = bad_none (trimmed text) a in
    rw (input_plain (trimmed text) a h, le-ltb _ _ h, n, le-ltb (length (trimmed text)) (length (trimmed text)) (omega arith))
