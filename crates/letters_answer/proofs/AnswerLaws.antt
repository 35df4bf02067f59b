-- What is lent to the writing of the lines is what the definition shows, and what each case of an input has written is the whole output.
-- What is read of an input is enough to answer all of it. What a reader gave is what it had, up to what is left of that.
use mathlib.Core.Path.{◌≡◌, sym, ap, ◌∙◌}
use mathlib.Core.List.{List, ◌++◌}
use Prim.Native.Nat.{ℕ, ◌≤◌}
use native.Mathlib.Omega.{arith}
use lib.ListN.{length, take, drop}
use Rattle.std.proofs.Common.{Some, None, IfSome, Result, Ok, Err, le_refl, take-append-drop}
use Rattle.std.proofs.lemmas.List.{append_cancel_right}
use Rattle.std.specs.Io.KnownBytes.{Consumes}
use Rattle.std.specs.declared.option.Option.{Option}
use Rattle.grouping_chart.specs.Settings.{base_settings}
use Rattle.call_encode.specs.Call.{Memory, encoded_kinds}
use Rattle.call_encode.proofs.CallLaws.{streaks_front, patterns_front, hits_front, intervals_front}
use Rattle.letters_count.specs.declared.Refusal.{Refusal}
use Rattle.letters_count.specs.Numbers.{number_of}
use Rattle.letters_grammar.specs.Letters.{trimmed}
use Rattle.letters_grammar.specs.Reading.{most_objects}
use Rattle.letters_shorthand.specs.declared.InputError.{InputError}
use Rattle.letters_shorthand.specs.declared.InputError.TheVariants.{Long, Refused}
use Rattle.letters_shorthand.specs.Input.{ReadDrill, input_bytes}
use Rattle.letters_shorthand.proofs.InputLaws.{input_front, read_long, read_refused, read_objects}
use Rattle.letters_text.specs.Lines.{Columns, lines, refused_line, long_line}
use Rattle.letters_text.specs.passes.Memory.{LinesFit}
use Rattle.letters_answer.specs.Output.{columns, printed, letters_output, InputAnswered}
use Rattle.letters_answer.proofs.IntervalLaws.{interval-small}

-- ---- the columns that are lent

columns_fit : (kinds : List ℕ) → length kinds ≤ most_objects → LinesFit (columns kinds) 0 5120
unfolding columns
columns_fit kinds h = record { small = interval-small kinds; enough = omega arith }

-- the kinds, and the first places of four answer slices after a call of `encode_kinds`
abbrev lent : List ℕ → Memory → Columns
lent kinds new =
    let n = length kinds in
    record {
      kinds = kinds;
      streaks = take n new.streak;
      patterns = take n new.pattern;
      hits = take n new.hit;
      intervals = take n new.interval;
    }

module _ (kinds : List ℕ) (old : Memory) {new : Memory} (x : new ≡ encoded_kinds base_settings.search_limit kinds old) where
  pub lent-columns : columns kinds ≡ lent kinds new
  unfolding columns
  lent-columns =
      let limit : ℕ = base_settings.search_limit in
      rw (x, streaks_front limit kinds old, patterns_front limit kinds old, hits_front limit kinds old, intervals_front limit kinds old)

  pub lines_fit : length kinds ≤ most_objects → LinesFit (lent kinds new) 0 5120
  lines_fit h = rw lent-columns at (columns_fit kinds h)

-- ---- the three cases of an input

module _ (text : List ℕ) {old kinds : List ℕ} {r : Result ℕ InputError} (x : ReadDrill (trimmed text) old kinds r) where
  pub answer_long : r ≡ Err Long → long_line ≡ letters_output text
  unfolding letters_output printed
  answer_long e = rw (read_long x e)

  pub answer_refused : (f : Refusal) → r ≡ Err (Refused f) → refused_line (number_of f.fault) f.place ≡ letters_output text
  unfolding letters_output printed
  answer_refused f e = rw (read_refused x f e)

  pub answer-objects : (n : ℕ) → r ≡ Ok n → lines (columns (take n kinds)) ≡ letters_output text
  unfolding letters_output printed
  answer-objects n e = rw (read_objects x n e)

-- ---- the first bytes of an input

-- so many bytes of the input are enough
output_front : (n : ℕ) (text : List ℕ) → input_bytes ≤ n → letters_output (take n text) ≡ letters_output text
unfolding letters_output
output_front n text h = ap printed (input_front n text h)

-- a reader that has only left what follows the first bytes of its text gave those, and they are enough
pub whole_answered : {out : List ℕ} (known left : Option (List ℕ)) (bytes : List ℕ) → Consumes known left bytes → out ≡ letters_output bytes
    → IfSome known (λ text. left ≡ Some (drop input_bytes text) → out ≡ letters_output text)
whole_answered None left bytes x y = tt
whole_answered (Some text) None bytes x y = absurd x
whole_answered (Some text) (Some rest) bytes x y = λ e.
    let r : rest ≡ drop input_bytes text = cc in
    let f : take input_bytes text ≡ bytes =
    append_cancel_right (take input_bytes text) bytes rest (ap (λ l. take input_bytes text ++ l) r ∙ take-append-drop input_bytes text ∙ x) in
    y ∙ ap letters_output (sym f) ∙ output_front input_bytes text (le_refl input_bytes)

-- so that what is printed for the bytes read is what is printed for all of the input
pub front_answered : {input out : List ℕ} (n : ℕ) → n ≤ length input → length input ≡ input_bytes → out ≡ letters_output (take n input)
    → InputAnswered input out
front_answered {input} n h e y = record {
  places = e;
  read = n;
  within = h;
  output = λ text f. y ∙ ap letters_output (sym f) ∙ output_front (length input) text (omega arith);
}
