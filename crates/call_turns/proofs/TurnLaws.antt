-- From the encoder's tables and the notes' numbers to the answers: an object's number is looked up at its streak's ends.
use mathlib.Core.Path.{◌≡◌, sym, ap, ◌∙◌}
use mathlib.Core.List.{List}
use Prim.Native.Nat.{ℕ, ◌≤◌, ◌<◌}
use native.Mathlib.Omega.{arith}
use lib.ListN.{length, get_or}
use Rattle.lent.specs.Over.{over}
use Rattle.lent.proofs.OverLaws.{length-over}
use Rattle.lent.proofs.PieceLaws.{get_or-over}
use Rattle.grouping_marks.specs.Marks.{group_count}
use Rattle.grouping_chart.specs.Object.{notes, note_idx, note_before, note_following}
use Rattle.grouping_chart.proofs.NotesLaws.{previous_note_by, next_note_by}
use Rattle.grouping_colour.specs.MonoStreak.{streak_marks, streak_of}
use Rattle.grouping_colour.proofs.StreakListLaws.{length-streak_of, streak-below}
use Rattle.grouping_colour.proofs.EndLaws.{length-streak_firsts, length-streak_lasts, streak_first-below, streak_last-below}
use Rattle.grouping_preprocessor.specs.passes.LookUps.{StreaksOf}
use Rattle.grouping_preprocessor.specs.declared.tables.Streaks.{Streaks}
use Rattle.call_turns.specs.Turns.{streak_first, streak_last, previous_colour_change, next_colour_change, note_told}
use Rattle.call_turns.specs.passes.Rooms.{note_indices, EndsRoom}
use Rattle.call_turns.proofs.NumberLaws.{length-indices, index_at, index-few}

module _ (kinds : List ℕ) (i : ℕ) (h : i < length kinds) where
  first_inside : streak_first kinds i < length kinds
  unfolding streak_first
  first_inside = streak_first-below kinds (get_or (streak_of kinds) i 0) (streak-below kinds i h)

  last_inside : streak_last kinds i < length kinds
  unfolding streak_last
  last_inside = streak_last-below kinds (get_or (streak_of kinds) i 0) (streak-below kinds i h)

-- the notes' numbers stand in front
pub record Numbers (kinds numbers : List ℕ) : Type 0 where
  pub long : length kinds ≤ length numbers
  pub at : (k : ℕ) → k < length kinds → get_or numbers k 0 ≡ note_idx kinds k

pub numbers_there : {kinds numbers : List ℕ} (region : List ℕ) → length kinds ≤ length region → numbers ≡ over (note_indices kinds) region
    → Numbers kinds numbers
numbers_there {kinds} region room e = record {
  long = omega (arith, ap length e, length-over (note_indices kinds) region (omega (arith, length-indices kinds)), room);
  at = λ k h. rw e (get_or-over (note_indices kinds) region k 0 (omega (arith, length-indices kinds)) ∙ index_at kinds k h);
}

module _ {kinds : List ℕ} {t : Streaks} {numbers : List ℕ} (e : StreaksOf kinds t) (x : Numbers kinds numbers) where
  module _ (i : ℕ) (h : i < length kinds) where
    streak_inside : i < length t.streak.now
    streak_inside = omega (arith, ap length e.streak, length-streak_of kinds)

    pub firsts_room : EndsRoom numbers t.first.now t.streak.now i
    firsts_room = record {
      within = streak_inside;
      streaks = λ k g. rw (e.streak, e.first, length-streak_firsts kinds) (streak-below kinds k (omega (arith, ap length e.streak, length-streak_of kinds)));
      objects = λ j g.
          let j-inside : j < group_count (streak_marks kinds) = omega (arith, ap length e.first, length-streak_firsts kinds) in
          rw e.first (omega (arith, streak_first-below kinds j j-inside, x.long));
    }

    pub lasts_room : EndsRoom numbers t.last.now t.streak.now i
    lasts_room = record {
      within = streak_inside;
      streaks = λ k g. rw (e.streak, e.last, length-streak_lasts kinds) (streak-below kinds k (omega (arith, ap length e.streak, length-streak_of kinds)));
      objects = λ j g.
          let j-inside : j < group_count (streak_marks kinds) = omega (arith, ap length e.last, length-streak_lasts kinds) in
          rw e.last (omega (arith, streak_last-below kinds j j-inside, x.long));
    }

    first_number : get_or numbers (get_or t.first.now (get_or t.streak.now i 0) 0) 0 ≡ note_idx kinds (streak_first kinds i)
    unfolding streak_first
    first_number = rw (e.streak, e.first) (x.at (streak_first kinds i) (first_inside kinds i h))

    last_number : get_or numbers (get_or t.last.now (get_or t.streak.now i 0) 0) 0 ≡ note_idx kinds (streak_last kinds i)
    unfolding streak_last
    last_number = rw (e.streak, e.last) (x.at (streak_last kinds i) (last_inside kinds i h))

    pub last_small : length kinds ≤ 16384 → get_or numbers (get_or t.last.now (get_or t.streak.now i 0) 0) 0 < 65535
    last_small f =
        let inside = last_inside kinds i h in
        omega (arith, last_number, inside, index-few kinds (streak_last kinds i) inside, f)

    pub previous_is : note_told (note_before (get_or numbers (get_or t.first.now (get_or t.streak.now i 0) 0) 0)) ≡ note_told (previous_colour_change kinds i)
    unfolding previous_colour_change
    previous_is = ap (λ (j : ℕ). note_told (note_before j)) first_number ∙ ap note_told (sym (previous_note_by kinds (streak_first kinds i)))

    pub next_is : (n : ℕ) → n ≡ length (notes kinds)
        → note_told (note_following n (get_or numbers (get_or t.last.now (get_or t.streak.now i 0) 0) 0)) ≡ note_told (next_colour_change kinds i)
    unfolding next_colour_change
    next_is n q = (λ s. note_told (note_following (q s) (last_number s))) ∙ ap note_told (sym (next_note_by kinds (streak_last kinds i)))
