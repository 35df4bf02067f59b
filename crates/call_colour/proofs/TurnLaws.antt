-- One object more of the sum and the count of the notes' values: what is left of the objects, taken from here, gives what all of them give. And the search
-- for a note.
use mathlib.Core.Path.{◌≡◌, refl, sym, ap, ◌∙◌}
use mathlib.Core.Bool.{Bool, true, false, cond, ◌||◌}
use mathlib.Core.List.{List, [], ◌∷◌}
use Prim.Native.Nat.{ℕ, suc, ◌+◌, ◌≤◌, ◌<◌}
use native.Mathlib.Nat.{zero-lt-suc}
use native.Mathlib.Omega.{arith}
use borrow.Author.Tests.{lt-ltb}
use mir.Val.{bool_byte}
use lib.Dec.{T, ltb}
use lib.IntN.{pos}
use lib.ListN.{length, drop, get_or}
use lib.Ieee.{Float, nan, binary64, fits, add, div, of_int}
use lib.Ieee.Fits.{add-fits}
use Rattle.numeric.specs.Constants.{zero64, minus_zero64}
use Rattle.numeric.proofs.MinusZero.{add_minus_zero}
use Rattle.grouping_chart.specs.Object.{is_note, notes}
use Rattle.grouping_chart.proofs.NotesLaws.{notes_none, notes_first}
use Rattle.grouping_interval.specs.Notes.{of_notes}
use Rattle.grouping_interval.proofs.NoteLaws.{of_notes-step, of_notes-over}
use Rattle.std.specs.List.{list_any}
use Rattle.call_colour.specs.Stretch.{has_note, sum_from, average_of}

-- ---- a truth value as a number

pub byte_below : (b : Bool) → bool_byte b < 2
byte_below true = omega arith
byte_below false = omega arith

-- ---- the search

has_more : (b : Bool) (k : ℕ) (ns : List ℕ) → ltb 0 (length (cond b (k ∷ ns) ns)) ≡ (b || ltb 0 (length ns))
has_more true k ns = lt-ltb 0 (suc (length ns)) (zero-lt-suc (length ns))
has_more false k ns = refl

pub any_note : (ks : List ℕ) → list_any is_note ks ≡ has_note ks
unfolding has_note
any_note [] = ap (λ ns. ltb 0 (length ns)) (sym notes_none)
any_note (k ∷ ks) =
    ap (λ b. is_note k || b) (any_note ks) ∙ sym (has_more (is_note k) k (notes ks)) ∙ ap (λ ns. ltb 0 (length ns)) (sym (notes_first k ks))

-- ---- the sum and the count

-- of the first i objects the sum and how many notes there are
pub record Summed (kinds : List ℕ) (values : List Float) (sum : Float) (notes i : ℕ) : Type 0 where
  pub here : i ≤ length kinds
  pub held : T (fits binary64 sum)
  pub few : notes ≤ i
  pub summed : sum_from sum (of_notes (drop i kinds) (drop i values)) ≡ sum_from zero64 (of_notes kinds values)
  pub counted : notes + length (of_notes (drop i kinds) (drop i values)) ≡ length (of_notes kinds values)

pub none_summed : (kinds : List ℕ) (values : List Float) → Summed kinds values zero64 0 0
unfolding fits
none_summed kinds values = record { here = omega arith; held = tt; few = omega arith; summed = refl; counted = omega arith }

sum_none : (sum : Float) (xs : List Float) → xs ≡ [] → sum_from sum xs ≡ sum
unfolding sum_from
sum_none sum xs e = rw e

sum_turn : (b : Bool) (sum v : Float) (rest : List Float) → T (fits binary64 sum)
    → sum_from (add binary64 sum (cond b v minus_zero64)) rest ≡ sum_from sum (cond b (v ∷ rest) rest)
unfolding sum_from
sum_turn true sum v rest f = refl
sum_turn false sum v rest f = rw (add_minus_zero sum f)

count_turn : (b : Bool) (v : Float) (rest : List Float) → bool_byte b + length rest ≡ length (cond b (v ∷ rest) rest)
count_turn true v rest = omega arith
count_turn false v rest = omega arith

module _ {kinds : List ℕ} {values : List Float} {sum : Float} {notes i : ℕ} (x : Summed kinds values sum notes i) where
  pub summed_turn : (b : Bool) (added : Float) → i < length kinds → length values ≡ length kinds → b ≡ is_note (get_or kinds i 0)
      → added ≡ cond (is_note (get_or kinds i 0)) (get_or values i nan) minus_zero64
      → Summed kinds values (add binary64 sum added) (notes + bool_byte b) (i + 1)
  summed_turn b added h l e f =
      let v : Float = get_or values i nan in
      let rest : List Float = of_notes (drop (i + 1) kinds) (drop (i + 1) values) in
      let left = of_notes-step kinds i b values h l (sym e) in
      let turn : sum_from (add binary64 sum added) rest ≡ sum_from sum (cond b (v ∷ rest) rest) = rw (f, ← e) (sum_turn b sum v rest x.held) in
      record {
        here = omega arith;
        held = add-fits binary64 sum added;
        few = omega (arith, x.few, byte_below b);
        summed = turn ∙ ap (sum_from sum) (sym left) ∙ x.summed;
        counted = omega (arith, count_turn b v rest, ap length left, x.counted);
      }

  pub averaged : length kinds ≤ i → div binary64 sum (of_int binary64 (pos notes)) ≡ average_of (of_notes kinds values)
  unfolding average_of
  averaged h =
      let none = of_notes-over kinds i values h in
      let all : sum ≡ sum_from zero64 (of_notes kinds values) = sym (sum_none sum _ none) ∙ x.summed in
      let count : notes ≡ length (of_notes kinds values) = omega (arith, ap length none, x.counted) in
      λ j. div binary64 (all j) (of_int binary64 (pos (count j)))
