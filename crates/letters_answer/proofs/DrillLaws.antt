-- What is printed, said by the grammar alone: the reading byte by byte finds what the grammar's words say, so nobody need believe the reading.
use mathlib.Core.Path.{◌≡◌, refl}
use mathlib.Core.Bool.{Bool, true, false}
use mathlib.Core.List.{List}
use Prim.Native.Nat.{ℕ, ◌≤◌, ◌<◌}
use borrow.Author.Tests.{ltb-true, ltb-false}
use lib.Dec.{ltb}
use lib.ListN.{length}
use Rattle.letters_grammar.specs.Letters.{trimmed}
use Rattle.letters_grammar.specs.Grammar.{DrillWithin}
use Rattle.letters_grammar.specs.Reading.{Finding, good, refused, shorthand, most_objects, most_brackets}
use Rattle.letters_grammar.specs.Faults.{FirstFault}
use Rattle.letters_grammar.proofs.Sound.{sound}
use Rattle.letters_grammar.proofs.Complete.{complete}
use Rattle.letters_grammar.proofs.Refusals.{refused_first, good_faultless, first_refused_lem}
use Rattle.letters_shorthand.specs.Input.{most_bytes}
use Rattle.letters_shorthand.proofs.InputLaws.{input_long, input_short}
use Rattle.letters_text.specs.Lines.{lines, refused_line, long_line}
use Rattle.letters_answer.specs.Output.{columns, printed, letters_output}

-- the first fault of a text, at the program's limits
abbrev First : List ℕ → ℕ → ℕ → Type 0
First t n p = FirstFault most_objects most_brackets t n p

-- a drill within the program's limits
abbrev Within : List ℕ → List ℕ → Type 0
Within t kinds = DrillWithin most_objects most_brackets t kinds

module _ (text : List ℕ) where
  pub long_printed : most_bytes < length (trimmed text) → letters_output text ≡ long_line
  unfolding letters_output printed
  long_printed h = rw (input_long (trimmed text) h)

  module _ (h : length (trimmed text) ≤ most_bytes) where
    pub drill_printed : (kinds : List ℕ) → Within (trimmed text) kinds → letters_output text ≡ lines (columns kinds)
    unfolding letters_output printed
    drill_printed kinds d = rw (input_short (trimmed text) h, complete most_objects most_brackets (trimmed text) kinds d)

    pub fault_printed : (n p : ℕ) → First (trimmed text) n p → letters_output text ≡ refused_line n p
    unfolding letters_output printed
    fault_printed n p f = rw (input_short (trimmed text) h, first_refused_lem most_objects most_brackets (trimmed text) n p f)

  -- and every input is one of the three
  pub data Case : Type 0 where
    too_long : most_bytes < length (trimmed text) → letters_output text ≡ long_line → Case
    drill : length (trimmed text) ≤ most_bytes → (kinds : List ℕ) → Within (trimmed text) kinds → letters_output text ≡ lines (columns kinds) → Case
    fault : length (trimmed text) ≤ most_bytes → (n p : ℕ) → First (trimmed text) n p → letters_output text ≡ refused_line n p → Case

  pub one_of_three : Case
  one_of_three = by_length (ltb most_bytes (length (trimmed text))) refl
    where
      read : length (trimmed text) ≤ most_bytes → (o : Finding) → shorthand most_objects most_brackets (trimmed text) ≡ o → Case
      read h (good ks) e = let d = sound most_objects most_brackets (trimmed text) ks e in drill h ks d (drill_printed h ks d)
      read h (refused n p) e = let f = refused_first most_objects most_brackets (trimmed text) n p e in fault h n p f (fault_printed h n p f)

      by_length : (a : Bool) → ltb most_bytes (length (trimmed text)) ≡ a → Case
      by_length true e = let l : most_bytes < length (trimmed text) = ltb-true _ _ e in too_long l (long_printed l)
      by_length false e = read (ltb-false _ _ e) (shorthand most_objects most_brackets (trimmed text)) refl

-- and no more than one: no drill has a fault
pub no_drill_faulty : (t kinds : List ℕ) (n p : ℕ) → Within t kinds → First t n p → ⊥
no_drill_faulty t kinds n p d f = good_faultless most_objects most_brackets t kinds (complete most_objects most_brackets t kinds d) n p f.fault
