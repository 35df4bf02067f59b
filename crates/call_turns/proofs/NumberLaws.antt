-- The loop that numbers notes: the objects before this one have their note_idx, and `next` counts the notes among them.
use mathlib.Core.Path.{◌≡◌, sym, ap, ◌∙◌}
use mathlib.Core.Bool.{Bool, true, false, cond}
use mathlib.Core.List.{List}
use Prim.Native.Nat.{ℕ, ◌+◌, ◌≤◌, ◌<◌}
use native.Mathlib.Omega.{arith}
use lib.ListN.{length, take, get_or, set}
use lib.Seq.{length-take-le}
use Rattle.std.proofs.lemmas.List.{take_all}
use Rattle.lent.specs.Over.{over}
use Rattle.lent.proofs.FillLaws.{Fill, fill_start_front, fill_turn_front, fill_end_front, length-tabulate, get_or-tabulate}
use Rattle.grouping_chart.specs.Object.{is_note, notes, note_idx}
use Rattle.grouping_chart.proofs.ObjectLaws.{seen₀, seen_after, seen_few, seen_count, notes_turn, note_idx_seen}
use Rattle.call_turns.specs.passes.Rooms.{note_indices}

pub record Numbering (kinds numbers₀ numbers : List ℕ) (next i : ℕ) : Type 0 where
  pub fill : Fill (note_indices kinds) (length kinds) 0 numbers₀ numbers i
  pub passed : next ≡ (seen_after seen₀ (take i kinds)).notes

pub length-indices : (kinds : List ℕ) → length (note_indices kinds) ≡ length kinds
unfolding note_indices
length-indices kinds = length-tabulate (note_idx kinds) (length kinds)

pub index_at : (kinds : List ℕ) (i : ℕ) → i < length kinds → get_or (note_indices kinds) i 0 ≡ note_idx kinds i
unfolding note_indices
index_at kinds i h = get_or-tabulate (note_idx kinds) (length kinds) i 0 h

chosen_few : (b : Bool) (next v : ℕ) → v ≡ cond b next 0 → v ≤ next
chosen_few true next v e = omega arith
chosen_few false next v e = omega arith

-- an object's note_idx is at most its place
pub index-few : (kinds : List ℕ) (i : ℕ) → i < length kinds → note_idx kinds i ≤ i
index-few kinds i h =
    omega (arith, chosen_few (is_note (get_or kinds i 0)) _ _ (note_idx_seen kinds i), seen_few (take i kinds), length-take-le i kinds (omega arith))

pub numbering_start : (kinds numbers : List ℕ) → length kinds ≤ length numbers → Numbering kinds numbers numbers 0 0
numbering_start kinds numbers r = record {
  fill = fill_start_front (note_indices kinds) (length kinds) numbers (length-indices kinds) r;
  passed = omega (arith, seen_few (take 0 kinds), length-take-le 0 kinds (omega arith));
}

module _ {kinds numbers₀ numbers : List ℕ} {next i : ℕ} (x : Numbering kinds numbers₀ numbers next i) where
  pub next_few : i < length kinds → next ≤ i
  next_few h = omega (arith, x.passed, seen_few (take i kinds), length-take-le i kinds (omega arith))

  pub index_few : (v : ℕ) → i < length kinds → v ≡ cond (is_note (get_or kinds i 0)) next 0 → v ≤ i
  index_few v h e = omega (arith, next_few h, chosen_few (is_note (get_or kinds i 0)) next v e)

  pub numbering_turn : (v after : ℕ) → i < length kinds → v ≡ cond (is_note (get_or kinds i 0)) next 0
      → after ≡ cond (is_note (get_or kinds i 0)) (next + 1) next → Numbering kinds numbers₀ (set numbers i v) after (i + 1)
  numbering_turn v after h e f = record {
    fill =
        fill_turn_front 0 x.fill h
        (e ∙ ap (λ (n : ℕ). cond (is_note (get_or kinds i 0)) n 0) x.passed ∙ sym (note_idx_seen kinds i) ∙ sym (index_at kinds i h));
    passed = notes_turn kinds i h next after x.passed f;
  }

  pub numbering_end : length kinds ≤ i → (next ≡ length (notes kinds)) × (numbers ≡ over (note_indices kinds) numbers₀)
  numbering_end h =
      let all : take i kinds ≡ kinds = take_all i kinds h in
      (x.passed ∙ ap (λ (l : List ℕ). (seen_after seen₀ l).notes) all ∙ seen_count kinds, fill_end_front x.fill h)

  pub counted_few : length kinds ≤ i → next ≤ length kinds
  counted_few h = omega (arith, (numbering_end h).0, seen_count kinds, seen_few kinds)
