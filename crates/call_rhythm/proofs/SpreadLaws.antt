-- The loops that spread what is said of notes over objects and that look numbers up. The invariant of the first: the first i objects have what is said of
-- their notes, and `next` counts the notes among them; of the second: the first i numbers are looked up, and the table, which lies behind them, is as it was.
use mathlib.Core.Path.{◌≡◌, sym, ◌∙◌}
use mathlib.Core.Logic.{inr}
use mathlib.Core.Bool.{Bool, true, cond}
use mathlib.Core.List.{List, []}
use Prim.Native.Nat.{ℕ, ◌+◌, ◌≤◌, ◌<◌}
use native.Mathlib.Omega.{arith}
use lib.ListN.{length, take, get_or, set}
use lib.Seq.{length-take-le}
use Rattle.lent.specs.Over.{over}
use Rattle.lent.specs.Scan.{gathered}
use Rattle.lent.specs.passes.Bounds.{AllBelow}
use Rattle.std.proofs.lemmas.List.{take_all}
use Rattle.lent.proofs.OverLaws.{length-over, front}
use Rattle.lent.proofs.FillLaws.{Fill, fill_start_front, fill_turn_front, fill_end_front, fill_unread}
use Rattle.lent.proofs.FillLaws.{length-gathered, get_or-gathered}
use Rattle.grouping_chart.specs.Object.{is_note, notes, note_idx}
use Rattle.grouping_chart.proofs.ObjectLaws.{seen₀, seen_after, seen_few, notes_turn, note_idx_seen}
use Rattle.call_rhythm.specs.Rhythm.{per_note}
use Rattle.call_rhythm.proofs.PerNoteLaws.{note_below, per_note_at, same_where}

-- ---- what is said of notes spread over objects

-- the notes before object i are counted
pub record Passed (kinds : List ℕ) (next i : ℕ) : Type 0 where
  pub passed : next ≡ (seen_after seen₀ (take i kinds)).notes

pub passed_start : (kinds : List ℕ) → Passed kinds 0 0
passed_start kinds = record { passed = omega (arith, seen_few []) }

module _ {kinds : List ℕ} {next i : ℕ} (x : Passed kinds next i) where
  next_is : is_note (get_or kinds i 0) ≡ true → next ≡ note_idx kinds i
  next_is n = x.passed ∙ sym (rw n at (note_idx_seen kinds i))

  -- a note's number is below how many there are
  pub next_below : i < length kinds → is_note (get_or kinds i 0) ≡ true → next < length (notes kinds)
  next_below h n = omega (arith, next_is n, note_below kinds i h n)

  pub next_few : i < length kinds → next ≤ i
  next_few h = omega (arith, x.passed, seen_few (take i kinds), length-take-le i kinds (omega arith))

  pub passed_turn : (after : ℕ) → i < length kinds → after ≡ cond (is_note (get_or kinds i 0)) (next + 1) next → Passed kinds after (i + 1)
  passed_turn after h e = record { passed = notes_turn kinds i h next after x.passed e }

  -- object i gets what is said of its note
  pub spread_turn : {A : Type 0} (none : A) (value : ℕ → A) {out₀ out : List A} {b : Bool} (v : A)
      → Fill (per_note none value kinds) (length kinds) 0 out₀ out i → i < length kinds → is_note (get_or kinds i 0) ≡ b → v ≡ cond b (value next) none
      → Fill (per_note none value kinds) (length kinds) 0 out₀ (set out i v) (i + 1)
  spread_turn none value {b} v f h n q =
      fill_turn_front none f h
      (rw (← n) at q
      ∙ same_where none (is_note (get_or kinds i 0)) (value next) (value (note_idx kinds i)) (λ n. rw (next_is n))
      ∙ sym (per_note_at none value kinds i none h))

-- ---- numbers looked up

module _ (table xs : List ℕ) where
  -- the first i numbers are looked up
  abbrev pub Looked : List ℕ → ℕ → Type 0
  Looked w i = Fill (gathered table xs) (length xs) 0 xs w i

  pub looked_start : Looked xs 0
  looked_start = fill_start_front (gathered table xs) (length xs) xs (length-gathered table xs) (omega arith)

module _ (table xs : List ℕ) {w : List ℕ} {i : ℕ} (x : Looked table xs w i) where
  -- the number read is below the table's size
  pub looked_below : AllBelow xs (length table) → i < length xs → get_or w i 0 < length table
  looked_below b h = omega (arith, fill_unread i 0 x (inr (omega arith)), b i h)

  pub looked_turn : i < length xs → Looked table xs (set w i (get_or table (get_or w i 0) 0)) (i + 1)
  looked_turn h =
      let e : get_or w i 0 ≡ get_or xs i 0 = fill_unread i 0 x (inr (omega arith)) in
      fill_turn_front 0 x h (rw e (sym (get_or-gathered table xs i h)))

  pub looked_end : length xs ≤ i → w ≡ gathered table xs
  looked_end h =
      let l : length (gathered table xs) ≡ length xs = length-gathered table xs in
      fill_end_front x h
      ∙ sym (take_all (length xs) (over (gathered table xs) xs) (omega (arith, length-over (gathered table xs) xs (omega arith))))
      ∙ front (gathered table xs) xs (length xs) l

pub ruleset looks = (looked_below, looked_turn, looked_end)
