-- What the lists of streaks are made of, how long they are, and that each object's streak is below their count.
use mathlib.Core.Path.{◌≡◌, refl, ◌∙◌}
use mathlib.Core.List.{List}
use Prim.Native.Nat.{ℕ, ◌<◌}
use native.Mathlib.Omega.{arith}
use lib.ListN.{length, get_or}
use Rattle.grouping_marks.specs.Marks.{group_count, group_numbers, group_sizes, group_firsts}
use Rattle.grouping_marks.proofs.MarksLaws.{length-numbers, numbers-below, length-sizes}
use Rattle.grouping_colour.specs.MonoStreak.{streak_marks, streak_of, streak_lengths, streak_types}
use Rattle.grouping_colour.proofs.LengthLaws.{length-streak_marks}

module _ (kinds : List ℕ) where
  pub streak_of_made : streak_of kinds ≡ group_numbers (streak_marks kinds)
  unfolding streak_of
  streak_of_made = refl

  pub streak_lengths_made : streak_lengths kinds ≡ group_sizes (streak_marks kinds)
  unfolding streak_lengths
  streak_lengths_made = refl

  pub streak_types_made : streak_types kinds ≡ group_firsts (streak_marks kinds) kinds
  unfolding streak_types
  streak_types_made = refl

  pub length-streak_of : length (streak_of kinds) ≡ length kinds
  unfolding streak_of
  length-streak_of = length-numbers (streak_marks kinds) ∙ length-streak_marks kinds

  pub length-streak_lengths : length (streak_lengths kinds) ≡ group_count (streak_marks kinds)
  unfolding streak_lengths
  length-streak_lengths = length-sizes (streak_marks kinds)

  pub streak-below : (i : ℕ) → i < length kinds → get_or (streak_of kinds) i 0 < group_count (streak_marks kinds)
  unfolding streak_of
  streak-below i h = numbers-below (streak_marks kinds) i (omega (arith, length-streak_marks kinds))
