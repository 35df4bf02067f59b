-- What a caller knows of an input from what `read_input` returns, and that the front of a long input tells all of it.
use mathlib.Core.Path.{◌≡◌, refl, sym, ap, ◌∙◌}
use mathlib.Core.Bool.{Bool, true, false, cond}
use mathlib.Core.List.{List}
use Prim.Native.Nat.{ℕ, ◌≤◌, ◌<◌}
use native.Mathlib.Omega.{arith}
use borrow.Author.Tests.{lt-ltb, le-ltb, ltb-false}
use lib.Dec.{ltb}
use lib.ListN.{length, take, length-take}
use Rattle.lent.proofs.OverLaws.{front}
use Rattle.lent.proofs.NeverLaws.{never}
use Rattle.letters_grammar.specs.Reading.{Finding, good, refused, shorthand}
use Rattle.letters_grammar.specs.Letters.{trimmed, LettersAlone, kinds_of}
use Rattle.letters_grammar.proofs.LetterLaws.{trimmed_front}
use Rattle.letters_grammar.proofs.BoundLaws.{refused_bounds}
use Rattle.letters_grammar.proofs.PlainLaws.{plain_good}
use Rattle.std.proofs.Common.{Result, Ok, Err}
use Rattle.letters_count.specs.declared.Refusal.{Refusal}
use Rattle.letters_count.specs.Numbers.{number_of}
use Rattle.letters_shorthand.specs.declared.InputError.{InputError}
use Rattle.letters_shorthand.specs.declared.InputError.TheVariants.{Long, Refused}
use Rattle.letters_grammar.specs.Reading.{most_objects, most_brackets}
use Rattle.letters_shorthand.specs.Input.{most_bytes, input_bytes}
use Rattle.letters_shorthand.specs.Input.{Input, long, read, input_of, objects_read, too_long, refused_at, so_many, answer_of, told, ReadDrill}

-- ---- what an input is

pub input_long : (t : List ℕ) → most_bytes < length t → input_of t ≡ long
unfolding input_of
input_long t h = rw (lt-ltb _ _ h)

pub input_short : (t : List ℕ) → length t ≤ most_bytes → input_of t ≡ read (shorthand most_objects most_brackets t)
unfolding input_of
input_short t h = rw (le-ltb _ _ h)

-- letters alone, a kind for each
pub input_plain : (t : List ℕ) → LettersAlone t → length t ≤ most_objects → input_of t ≡ read (good (kinds_of t))
input_plain t a h = rw (input_short t (omega arith), plain_good most_objects most_brackets t a h)

-- a program that reads only so many bytes of an input, or more, reads what it would read of the whole
pub input_front : (n : ℕ) (s : List ℕ) → input_bytes ≤ n → input_of (trimmed (take n s)) ≡ input_of (trimmed s)
input_front n s h = trimmed_front input_of most_bytes n s (λ t u a b. input_long t a ∙ sym (input_long u b)) h

-- ---- what an answer tells

told_long : (i : Input) → answer_of i ≡ too_long → i ≡ long
unfolding answer_of
told_long long e = refl
told_long (read (refused n p)) e = never (cc)
told_long (read (good ks)) e = never (cc)

told-refused : (i : Input) (n p : ℕ) → answer_of i ≡ refused_at n p → i ≡ read (refused n p)
unfolding answer_of
told-refused long n p e = never (cc)
told-refused (read (refused m q)) n p e = cc
told-refused (read (good ks)) n p e = never (cc)

-- so many objects, which are those read
told-objects : (i : Input) (n : ℕ) → answer_of i ≡ so_many n → (i ≡ read (good (objects_read i))) × (length (objects_read i) ≡ n)
unfolding answer_of objects_read
told-objects long n e = never (cc)
told-objects (read (refused m q)) n e = never (cc)
told-objects (read (good ks)) n e = (refl, cc)

-- an input that is read is a text that is not too long
input_read : (t : List ℕ) (f : Finding) → input_of t ≡ read f → (length t ≤ most_bytes) × (shorthand most_objects most_brackets t ≡ f)
unfolding input_of
input_read t f e = go (ltb most_bytes (length t)) refl e
  where
    go : (a : Bool) → ltb most_bytes (length t) ≡ a → cond a long (read (shorthand most_objects most_brackets t)) ≡ read f
        → (length t ≤ most_bytes) × (shorthand most_objects most_brackets t ≡ f)
    go true x y = never (cc)
    go false x y = (ltb-false _ _ x, cc)

module _ {t old new : List ℕ} {r : Result ℕ InputError} (x : ReadDrill t old new r) where
  pub read_long : r ≡ Err Long → input_of t ≡ long
  read_long e = told_long (input_of t) (sym x.answer ∙ ap told e)

  pub read_refused : (f : Refusal) → r ≡ Err (Refused f) → input_of t ≡ read (refused (number_of f.fault) f.place)
  read_refused f e = told-refused (input_of t) (number_of f.fault) f.place (sym x.answer ∙ ap told e)

  -- the number has two digits, and the place four
  pub read_refused-small : (f : Refusal) → r ≡ Err (Refused f) → (number_of f.fault < 100) × (f.place < 10000)
  read_refused-small f e =
      let i = input_read t (refused (number_of f.fault) f.place) (read_refused f e) in
      let b = refused_bounds most_objects most_brackets t (number_of f.fault) f.place i.1 in
      (omega arith, omega arith)

  told_count : (n : ℕ) → r ≡ Ok n → (input_of t ≡ read (good (objects_read (input_of t)))) × (length (objects_read (input_of t)) ≡ n)
  told_count n e = told-objects (input_of t) n (sym x.answer ∙ ap told e)

  pub read_objects : (n : ℕ) → r ≡ Ok n → input_of t ≡ read (good (take n new))
  read_objects n e = let i = told_count n e in rw (x.memory, front (objects_read (input_of t)) old n i.1) i.0

  -- they stand in what was lent
  pub read_within : (n : ℕ) → r ≡ Ok n → n ≤ length new
  read_within n e =
      let i = told_count n e in
      let f : take n new ≡ objects_read (input_of t) = rw x.memory (front (objects_read (input_of t)) old n i.1) in
      omega (arith, i.1, ap length f, length-take n new)
