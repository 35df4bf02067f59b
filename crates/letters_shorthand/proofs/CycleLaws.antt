-- A bracket and a sequence meet their promises: what is read inside goes on from where the item before it stopped.
use mathlib.Core.Path.{◌≡◌, refl, sym, ap, subst, ◌∙◌}
use mathlib.Core.Bool.{Bool}
use mathlib.Core.List.{List, ◌∷◌}
use Prim.Native.Nat.{ℕ, suc, ◌+◌, ◌≤◌, ◌<◌}
use native.Mathlib.Numerals.{add-one}
use native.Mathlib.Omega.{arith}
use lib.ListN.{length, take, get_or}
use lib.Seq.{length-take-le}
use Rattle.letters_grammar.specs.Reading.{Bracket, need, free, exchanged}
use Rattle.letters_grammar.proofs.ReadingLaws.{exchanged-inside}
use Rattle.letters_grammar.proofs.PlaceLaws.{need-deep, need_open, free-need, free_closed, free_open_end}
use Rattle.letters_count.specs.declared.Cursor.{Cursor}
use Rattle.std.proofs.Common.{Ok, Err}
use Rattle.letters_count.specs.declared.Fault.TheVariants.{Misplaced, TooDeep}
use Rattle.letters_count.specs.declared.Refusal.{Refusal}
use Rattle.letters_grammar.specs.Reading.{most_objects, most_brackets}
use Rattle.letters_count.specs.passes.Counts.{Read, refusal, from, goes_on, Room, Reached, Later, CountRead}
use Rattle.letters_shorthand.specs.passes.Readers.{AtByte, Stopped, ItemRead, SequenceRead}
use Rattle.letters_count.proofs.LaterLaws.{onward, nearer}

-- ---- where an item stopped

module _ {s old new : List ℕ} {c : Cursor} {depth : ℕ} {q : Bool} {r : Read} {d : Cursor} (x : ItemRead s old new c depth q r) (e : r ≡ Ok d) where
  pub item_later : Reached s 1 c d
  item_later = subst (Later s 1 c) e x.later

-- ---- a bracket

-- the bracket that opens at c, and the brackets inside it
abbrev bracket_at : List ℕ → Cursor → Bool → Bracket
bracket_at old c q = record { start = length (take c.count old); swapped = q }

opened : List ℕ → Cursor → Bool → List Bracket → List Bracket
opened old c q fs = bracket_at old c q ∷ fs

deeper : (old : List ℕ) (c : Cursor) (q : Bool) (fs : List Bracket) {depth : ℕ} → length fs ≡ depth → length (opened old c q fs) ≡ depth + 1
unfolding opened
deeper old c q fs {depth} h = ap suc h ∙ sym (add-one depth)

module _ {s old : List ℕ} {c : Cursor} {depth : ℕ} {q : Bool} (w : Room s old c) (o : AtByte s c 40) where
  pub bracket-deep : most_brackets ≤ depth → ItemRead s old old c depth q (Err (refusal TooDeep c.at))
  bracket-deep h = record {
    later = tt;
    same = λ fs e. need-deep most_objects most_brackets s c.at fs (take c.count old) q o.within o.same (omega (arith, e));
  }

  module _ (h : depth < most_brackets) {mid : List ℕ} {r : Read} (x : ItemRead s old mid (record { at = c.at + 1; count = c.count }) (depth + 1) q r) where
    into : (fs : List Bracket) → length fs ≡ depth → from s c fs (need q) old ≡ goes_on s (opened old c q fs) mid r
    unfolding opened
    into fs e =
        need_open most_objects most_brackets s c.at fs (take c.count old) q o.within o.same (omega (arith, e))
        ∙ x.same (opened old c q fs) (deeper old c q fs e)

    pub bracket_first : {f : Refusal} → r ≡ Err f → ItemRead s old mid c depth q (Err f)
    bracket_first e = record { later = tt; same = λ fs f. into fs f ∙ ap (goes_on s (opened old c q fs) mid) e }

    module _ {d : Cursor} (e : r ≡ Ok d) {next : List ℕ} {t : Read} (y : SequenceRead s mid next d (depth + 1) q t) where
      inside : (fs : List Bracket) → length fs ≡ depth → from s c fs (need q) old ≡ goes_on s (opened old c q fs) next t
      unfolding opened
      inside fs f =
          into fs f ∙ ap (goes_on s (opened old c q fs) mid) e ∙ y.same (opened old c q fs) (deeper old c q fs f) (exchanged-inside (bracket_at old c q) fs)

      pub bracket-rest : {f : Refusal} → t ≡ Err f → ItemRead s old next c depth q (Err f)
      bracket-rest g = record { later = tt; same = λ fs f. inside fs f ∙ ap (goes_on s (opened old c q fs) next) g }

      module _ {z : Cursor} (g : t ≡ Ok z) where
        ended : Reached s 0 d z
        ended = subst (Later s 0 d) g y.later

        closing : (z.at < length s) → get_or s z.at 0 ≡ 41
        unfolding Stopped
        closing = subst (Stopped s) g y.stopped

        pub bracket_short : length s ≤ z.at → ItemRead s old next c depth q (Err (refusal Misplaced z.at))
        unfolding opened
        bracket_short k = record {
          later = tt;
          same = λ fs f.
              inside fs f
              ∙ ap (goes_on s (opened old c q fs) next) g
              ∙ free_open_end most_objects most_brackets s z.at (take z.count next) (bracket_at old c q) fs k;
        }

        module _ (k : z.at < length s) where
          pub bracket_read : {new : List ℕ} {u : Read} → CountRead s next new (record { at = z.at + 1; count = z.count }) c.count u
              → ItemRead s old new c depth q u
          unfolding opened
          bracket_read {new} {u} v =
              let a = item_later x e in
              let b = ended in
              let front : length (take c.count old) ≡ c.count = length-take-le c.count old (omega arith) in
              record {
                later = nearer s 1 2 c u (omega arith) (onward s 2 0 c (record { at = z.at + 1; count = z.count }) u (omega arith) (omega arith) v.later);
                same = λ fs f.
                    inside fs f
                    ∙ ap (goes_on s (opened old c q fs) next) g
                    ∙ free_closed most_objects most_brackets s z.at (take z.count next) (bracket_at old c q) fs k (closing k)
                    ∙ rw front (v.same fs);
              }

-- ---- a sequence

still : {s old : List ℕ} {c : Cursor} → Room s old c → Reached s 0 c c
still w = record { later = omega arith; place = w.place; more = omega arith; few = w.few }

module _ {s old : List ℕ} {c : Cursor} {depth : ℕ} {q : Bool} (w : Room s old c) where
  pub sequence_end : length s ≤ c.at → SequenceRead s old old c depth q (Ok c)
  unfolding Stopped
  sequence_end h = record { later = still w; stopped = λ l. absurd (omega arith); same = λ fs e f. refl }

  pub sequence_close : get_or s c.at 0 ≡ 41 → SequenceRead s old old c depth q (Ok c)
  unfolding Stopped
  sequence_close h = record { later = still w; stopped = λ l. h; same = λ fs e f. refl }

module _ {s old : List ℕ} {c : Cursor} {depth : ℕ} {q : Bool} {mid : List ℕ} {r : Read} (l : c.at < length s) (o : get_or s c.at 0 ≡ 41 → ⊥)
    (x : ItemRead s old mid c depth q r) where
  read_on : (fs : List Bracket) → length fs ≡ depth → exchanged fs ≡ q → from s c fs free old ≡ goes_on s fs mid r
  read_on fs e f = free-need most_objects most_brackets s c.at (take c.count old) fs l o ∙ rw f (x.same fs e)

  pub sequence_refused : {f : Refusal} → r ≡ Err f → SequenceRead s old mid c depth q (Err f)
  unfolding Stopped
  sequence_refused e = record { later = tt; stopped = tt; same = λ fs f g. read_on fs f g ∙ ap (goes_on s fs mid) e }

  pub sequence_more : {d : Cursor} {new : List ℕ} {t : Read} → r ≡ Ok d → SequenceRead s mid new d depth q t → SequenceRead s old new c depth q t
  sequence_more {d} {new} {t} e y =
      let a = item_later x e in
      record {
        later = nearer s 0 1 c t (omega arith) (onward s 1 0 c d t (omega arith) (omega arith) y.later);
        stopped = y.stopped;
        same = λ fs f g. read_on fs f g ∙ ap (goes_on s fs mid) e ∙ y.same fs f g;
      }
