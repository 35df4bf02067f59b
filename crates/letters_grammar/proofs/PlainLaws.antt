-- Letters alone are read as they were before there was a shorthand: each letter is one object, of its kind. The objects so far, and the kinds of the
-- letters that are left behind them, are the whole's.
use mathlib.Core.Path.{◌≡◌, refl, ◌∙◌}
use mathlib.Core.Bool.{Bool, true, false}
use mathlib.Core.List.{List, [], ◌∷◌, ◌++◌, append_assoc, append-nil}
use Prim.Native.Nat.{ℕ, ◌+◌, ◌≤◌}
use native.Mathlib.Omega.{arith}
use lib.ListN.{length}
use Rattle.lent.proofs.NeverLaws.{never}
use Rattle.letters_grammar.specs.Letters.{LettersAlone, is_letter, kind_of, kinds_of, exchanged_if}
use Rattle.letters_grammar.specs.Reading.{Mode, need, free, after, tens, good, digit_first, exchanged, ended, at_end, at_objects, step, run, shorthand}
use Rattle.letters_grammar.proofs.LetterLaws.{Lettered, letter_cases, letter_no_digit}
use Rattle.letters_grammar.proofs.ReadingLaws.{objects-few, item_letter, free_item, after_none, run-on}
use Rattle.letters_grammar.proofs.KindLaws.{length-letter}
use Rattle.letters_grammar.proofs.MoveLaws.{is_ready}
use Rattle.letters_grammar.proofs.CloseLaws.{letter_41}

pub alone_head : (b : ℕ) (t : List ℕ) → LettersAlone (b ∷ t) → is_letter b ≡ true
unfolding LettersAlone
alone_head b t a = a.0

pub alone_tail : (b : ℕ) (t : List ℕ) → LettersAlone (b ∷ t) → LettersAlone t
unfolding LettersAlone
alone_tail b t a = a.1

module _ (M D : ℕ) where
  -- a letter where nothing must follow, with no bracket open
  plain-step : (more : Bool) (b : ℕ) (m : Mode) (ks : List ℕ) → Lettered b → is_ready m ≡ true
      → step M D more b [] m ks ≡ at_objects M D [] (after (length ks)) (ks ++ kind_of b ∷ [])
  unfolding step is_ready exchanged exchanged_if
  plain-step more b (need q) ks l r = never (cc)
  plain-step more b free ks l r = free_item M D b [] ks (λ e. letter_41 (rw e at l)) ∙ item_letter M D b [] false ks l
  plain-step more b (after i) ks l r =
      after_none M D more b i [] ks (letter_no_digit l) ∙ free_item M D b [] ks (λ e. letter_41 (rw e at l)) ∙ item_letter M D b [] false ks l
  plain-step more b (tens i t) ks l r = never (cc)

  plain-run : (t : List ℕ) → LettersAlone t → (p : ℕ) (m : Mode) (ks : List ℕ) → is_ready m ≡ true → length ks + length t ≤ M
      → run M D t p [] m ks ≡ good (ks ++ kinds_of t)
  unfolding kinds_of run at_end ended is_ready exchanged_if
  plain-run [] a p (need q) ks r h = never (cc)
  plain-run [] a p free ks r h = rw (append-nil ks)
  plain-run [] a p (after i) ks r h = rw (append-nil ks)
  plain-run [] a p (tens i t) ks r h = never (cc)
  plain-run (b ∷ t) a p m ks r h =
      let l : Lettered b = letter_cases b (alone_head b t a) in
      let ls : List ℕ = ks ++ kind_of b ∷ [] in
      let n : length ls ≡ length ks + 1 = length-letter false b ks in
      run-on M D b t p [] m ks (plain-step (digit_first t) b m ks l r ∙ objects-few M D [] (after (length ks)) ls (omega arith))
      ∙ plain-run t (alone_tail b t a) (p + 1) (after (length ks)) ls refl (omega arith)
      ∙ rw (append_assoc ks (kind_of b ∷ []) (kinds_of t))

  pub plain_good : (t : List ℕ) → LettersAlone t → length t ≤ M → shorthand M D t ≡ good (kinds_of t)
  unfolding shorthand is_ready
  plain_good t a h = plain-run t a 0 free [] refl (omega arith)
