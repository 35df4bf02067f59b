-- A whole text: what the sequence that was read says of it, and what is answered then.
use mathlib.Core.Path.{◌≡◌, refl, sym, ap, subst, ◌∙◌}
use mathlib.Core.Bool.{false}
use mathlib.Core.List.{List, []}
use Prim.Native.Nat.{ℕ, ◌≤◌, ◌<◌}
use lib.ListN.{length, take}
use lib.Seq.{length-take-le}
use Rattle.lent.specs.Over.{over}
use Rattle.lent.proofs.OverLaws.{put_front, put_nothing}
use Rattle.letters_grammar.specs.Reading.{good, refused, shorthand}
use Rattle.letters_grammar.proofs.ReadingLaws.{shorthand-run, exchanged_none}
use Rattle.letters_grammar.proofs.PlaceLaws.{free_loose, free-end}
use Rattle.letters_count.specs.declared.Cursor.{Cursor}
use Rattle.std.proofs.Common.{Ok, Err}
use Rattle.letters_count.specs.declared.Fault.TheVariants.{Misplaced}
use Rattle.letters_count.specs.declared.Refusal.{Refusal}
use Rattle.letters_count.specs.Numbers.{number_of}
use Rattle.letters_shorthand.specs.declared.InputError.TheVariants.{Long, Refused}
use Rattle.letters_grammar.specs.Reading.{most_objects, most_brackets}
use Rattle.letters_shorthand.specs.Input.{most_bytes, long, read, input_of, objects_read, answer_of, ReadDrill}
use Rattle.letters_shorthand.proofs.InputLaws.{input_long, input_short}
use Rattle.letters_count.specs.passes.Counts.{Read, refusal, goes_on, Later}
use Rattle.letters_shorthand.specs.passes.Readers.{Stopped, SequenceRead, finding_of, TextRead}

-- ---- the sequence that a text is

module _ {t old new : List ℕ} {r : Read} (x : SequenceRead t old new (record { at = 0; count = 0 }) 0 false r) where
  whole : shorthand most_objects most_brackets t ≡ goes_on t [] new r
  whole = shorthand-run most_objects most_brackets t ∙ x.same [] refl exchanged_none

  pub text_refused : {f : Refusal} → r ≡ Err f → TextRead t new (Err f)
  unfolding finding_of
  text_refused e = record { later = tt; found = whole ∙ ap (goes_on t [] new) e }

  module _ {d : Cursor} (e : r ≡ Ok d) where
    pub text_loose : d.at < length t → TextRead t new (Err (refusal Misplaced d.at))
    unfolding Stopped finding_of
    text_loose l = record {
      later = tt;
      found =
          whole
          ∙ ap (goes_on t [] new) e
          ∙ free_loose most_objects most_brackets t d.at (take d.count new) l (subst (Stopped t) e x.stopped l);
    }

    pub text_read : length t ≤ d.at → TextRead t new (Ok d)
    unfolding finding_of
    text_read h = record {
      later = subst (Later t 0 (record { at = 0; count = 0 })) e x.later;
      found = whole ∙ ap (goes_on t [] new) e ∙ free-end most_objects most_brackets t d.at (take d.count new) h;
    }

-- a good text has room for its objects
pub text_few : {t new : List ℕ} {r : Read} {d : Cursor} → TextRead t new r → r ≡ Ok d → d.count ≤ 1024
text_few {t} x e = (subst (Later t 0 (record { at = 0; count = 0 })) e x.later).few

-- ---- what is answered

over_nothing : (w : List ℕ) → over [] w ≡ w
over_nothing w = sym (put_front [] w) ∙ put_nothing 0 w

module _ {t : List ℕ} where
  pub answers_long : (w : List ℕ) → most_bytes < length t → ReadDrill t w w (Err Long)
  unfolding objects_read answer_of
  answers_long w h = let i : input_of t ≡ long = input_long t h in record { answer = rw i; memory = rw i (sym (over_nothing w)) }

  module _ (h : length t ≤ most_bytes) {new : List ℕ} {r : Read} (x : TextRead t new r) where
    found : input_of t ≡ read (finding_of new r)
    found = input_short t h ∙ rw x.found

    pub answers-refused : (w : List ℕ) {f : Refusal} → r ≡ Err f → ReadDrill t w w (Err (Refused f))
    unfolding finding_of objects_read answer_of
    answers-refused w {f} e =
        let i : input_of t ≡ read (refused (number_of f.fault) f.place) = found ∙ rw e in
        record { answer = rw i; memory = rw i (sym (over_nothing w)) }

    pub answers-objects : {d : Cursor} (old left : List ℕ) → r ≡ Ok d → d.count ≤ length new → left ≡ over (take d.count new) old
        → ReadDrill t old left (Ok d.count)
    unfolding finding_of objects_read answer_of
    answers-objects {d} old left e l m =
        let i : input_of t ≡ read (good (take d.count new)) = found ∙ rw e in
        record { answer = rw (i, length-take-le d.count new l); memory = rw i m }
