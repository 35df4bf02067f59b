-- What is read at a cursor meets the reader's promise, case by case: a count or none, a letter, `~`.
use mathlib.Core.Path.{◌≡◌, ◌∙◌}
use mathlib.Core.Bool.{Bool, false, not}
use mathlib.Core.List.{List, [], ◌∷◌}
use Prim.Native.Nat.{ℕ, ◌+◌, ◌≤◌, ◌<◌}
use native.Mathlib.Numerals.{add-one}
use native.Mathlib.Omega.{arith}
use lib.ListN.{length, take, get_or, set}
use lib.Seq.{length-take-le, take-suc-set}
use Rattle.lent.proofs.NeverLaws.{never}
use Rattle.letters_grammar.specs.Letters.{is_letter, kind_of, exchanged_if}
use Rattle.letters_grammar.proofs.LetterLaws.{Lettered, a_letter, letter_cases, exchanged_not, exchanged_center, exchanged_rim, exchanged_other}
use Rattle.letters_grammar.proofs.ReadingLaws.{with_letter}
use Rattle.letters_grammar.proofs.KindLaws.{length-letter}
use Rattle.letters_grammar.proofs.PlaceLaws.{need-end, need_other, need_tilde, need-many, need-letter}
use Rattle.letters_count.specs.declared.Cursor.{Cursor}
use Rattle.std.proofs.Common.{Err}
use Rattle.letters_count.specs.declared.Fault.TheVariants.{Misplaced, Crowded}
use Rattle.letters_grammar.specs.Reading.{most_objects, most_brackets}
use Rattle.letters_count.specs.passes.Counts.{Read, refusal, Room, CountRead}
use Rattle.letters_shorthand.specs.passes.Readers.{AtLetter, ItemRead}
use Rattle.letters_count.proofs.LaterLaws.{onward, nearer}

-- ---- a letter

pub ruleset exchanges = (arith, exchanged_not, exchanged_center, exchanged_rim, exchanged_other)

module _ (s old : List ℕ) (c : Cursor) (q : Bool) (w : Room s old c) (a : AtLetter s c) where
  front : length (take c.count old) ≡ c.count
  front = length-take-le c.count old (omega arith)

  grown : length (with_letter q (get_or s c.at 0) (take c.count old)) ≡ c.count + 1
  grown = length-letter q (get_or s c.at 0) (take c.count old) ∙ omega (arith, front)

  lettered : Lettered (get_or s c.at 0)
  lettered = letter_cases (get_or s c.at 0) a.letter

  pub letter-full : most_objects ≤ c.count → (depth : ℕ) → ItemRead s old old c depth q (Err (refusal Crowded c.at))
  letter-full f depth = record {
    later = tt;
    same = λ fs _. need-many most_objects most_brackets s c.at fs (take c.count old) q a.within lettered (omega (arith, grown));
  }

  module _ (f : c.count < most_objects) (k : ℕ) where
    pub letter_read : (new : List ℕ) (r : Read) → k ∷ [] ≡ exchanged_if q (kind_of (get_or s c.at 0) ∷ [])
        → CountRead s (set old c.count k) new (record { at = c.at + 1; count = c.count + 1 }) c.count r
        → (depth : ℕ) → ItemRead s old new c depth q r
    letter_read new r e x depth =
        let stored : take (c.count + 1) (set old c.count k) ≡ with_letter q (get_or s c.at 0) (take c.count old) =
        rw (add-one c.count, take-suc-set old c.count k (omega arith), e) in
        record {
          later = onward s 1 0 c (record { at = c.at + 1; count = c.count + 1 }) r (omega arith) (omega arith) x.later;
          same = λ fs _.
              need-letter most_objects most_brackets s c.at fs (take c.count old) q a.within lettered (omega (arith, grown))
              ∙ rw (front, ← stored) (x.same fs);
        }

-- ---- an item that is no letter and no bracket

module _ (s old : List ℕ) (c : Cursor) (depth : ℕ) (q : Bool) where
  pub item_end : length s ≤ c.at → ItemRead s old old c depth q (Err (refusal Misplaced c.at))
  item_end h = record { later = tt; same = λ fs _. need-end most_objects most_brackets s c.at fs (take c.count old) q h }

  module _ (l : c.at < length s) where
    pub item_other : {r : Read} → (get_or s c.at 0 ≡ 126 → ⊥) → (get_or s c.at 0 ≡ 40 → ⊥) → is_letter (get_or s c.at 0) ≡ false
        → r ≡ Err (refusal Misplaced c.at) → ItemRead s old old c depth q r
    item_other x y z e =
        let other : Lettered (get_or s c.at 0) → ⊥ = λ a. let letter = a_letter a in never (cc) in
        rw e (record { later = tt; same = λ fs _. need_other most_objects most_brackets s c.at fs (take c.count old) q l x y other })

    pub item_tilde : (new : List ℕ) (r : Read) → get_or s c.at 0 ≡ 126
        → ItemRead s old new (record { at = c.at + 1; count = c.count }) depth (not q) r → ItemRead s old new c depth q r
    item_tilde new r e x = record {
      later = nearer s 1 (1 + 1) c r (omega arith) (onward s 1 1 c (record { at = c.at + 1; count = c.count }) r (omega arith) (omega arith) x.later);
      same = λ fs h. need_tilde most_objects most_brackets s c.at fs (take c.count old) q l e ∙ x.same fs h;
    }
