-- What a reader may not expect of where the colour turns, proved: no note stands before a streak that a NonHit begins, one that ends with a NonHit is that
-- object alone and has note 1 after it, and all objects of a streak have the same two answers.
use mathlib.Core.Path.{◌≡◌}
use mathlib.Core.Bool.{false, cond}
use mathlib.Core.List.{List}
use Prim.Native.Nat.{ℕ, ◌<◌}
use lib.Dec.{ltb}
use lib.ListN.{length, get_or}
use Rattle.std.specs.Prelude.{Some, None}
use Rattle.grouping_chart.specs.Object.{is_note, notes, previous_note, next_note}
use Rattle.grouping_chart.proofs.NotesLaws.{previous_none, next_one}
use Rattle.grouping_colour.specs.MonoStreak.{streak_of, streak_firsts, streak_lasts}
use Rattle.grouping_colour.proofs.StreakListLaws.{streak-below}
use Rattle.grouping_colour.proofs.EndLaws.{nonhit_alone}
use Rattle.call_turns.specs.Turns.{streak_first, streak_last, previous_colour_change, next_colour_change}

module _ (kinds : List ℕ) (i : ℕ) where
  pub previous_of_nonhit : is_note (get_or kinds (streak_first kinds i) 0) ≡ false → previous_colour_change kinds i ≡ None
  unfolding previous_colour_change
  previous_of_nonhit e = previous_none kinds (streak_first kinds i) e

  pub next_of_nonhit : is_note (get_or kinds (streak_last kinds i) 0) ≡ false → next_colour_change kinds i ≡ cond (ltb 1 (length (notes kinds))) (Some 1) None
  unfolding next_colour_change
  next_of_nonhit e = next_one kinds (streak_last kinds i) e

  pub nonhit_is_alone : i < length kinds → is_note (get_or kinds (streak_last kinds i) 0) ≡ false → streak_first kinds i ≡ streak_last kinds i
  unfolding streak_first streak_last
  nonhit_is_alone h e = nonhit_alone kinds (get_or (streak_of kinds) i 0) (streak-below kinds i h) e

-- the two answers of an object are those of its streak
pub same_turns : (kinds : List ℕ) (i k : ℕ) → get_or (streak_of kinds) i 0 ≡ get_or (streak_of kinds) k 0
    → (previous_colour_change kinds i ≡ previous_colour_change kinds k) × (next_colour_change kinds i ≡ next_colour_change kinds k)
unfolding previous_colour_change next_colour_change streak_first streak_last
same_turns kinds i k e = (λ t. previous_note kinds (get_or (streak_firsts kinds) (e t) 0), λ t. next_note kinds (get_or (streak_lasts kinds) (e t) 0))
