-- From object to object the number of the hit pattern never falls.
use mathlib.Core.Path.{◌≡◌}
use Prim.Native.Nat.{ℕ, ◌≤◌, ◌<◌}
use mathlib.Core.List.{List}
use native.Mathlib.Omega.{arith}
use lib.ListN.{length, get_or}
use Rattle.lent.specs.Scan.{gathered}
use Rattle.grouping_marks.specs.Marks.{group_numbers}
use Rattle.lent.proofs.FillLaws.{get_or-gathered}
use Rattle.grouping_marks.proofs.NumberLaws.{numbers_rise}
use Rattle.grouping_colour.specs.MonoStreak.{streak_marks, streak_of}
use Rattle.grouping_preprocessor.specs.Preprocessor.{patterns_open, hits_open, alternating_of, hit_of}
use Rattle.grouping_colour.proofs.LengthLaws.{length-streak_marks}
use Rattle.grouping_colour.proofs.StreakListLaws.{length-streak_of, streak-below}
use Rattle.grouping_preprocessor.proofs.BoundLaws.{length-patterns_open, length-alternating_of, length-hits_open, alternating_of-below}
use Rattle.grouping_preprocessor.proofs.BoundLaws.{alternating_of_looked, hit_of_looked}
use Rattle.grouping_colour.proofs.StreakListLaws.{streak_of_made}

abbrev Rising : ℕ → List ℕ → Type 0
Rising n xs = (i j : ℕ) → i ≤ j → j < n → get_or xs i 0 ≤ get_or xs j 0

-- the group numbers of groups that are numbered in order
gathered_rises : (n : ℕ) (marks numbers : List ℕ) → length numbers ≡ n → ((i : ℕ) → i < n → get_or numbers i 0 < length marks) → Rising n numbers
    → Rising n (gathered (group_numbers marks) numbers)
gathered_rises n marks numbers e below rise i j l h =
    omega (
      arith,
      get_or-gathered (group_numbers marks) numbers i (omega arith),
      get_or-gathered (group_numbers marks) numbers j (omega arith),
      numbers_rise marks (get_or numbers i 0) (get_or numbers j 0) (rise i j l h) (below j h),
    )

module _ (kinds : List ℕ) where
  streak_rises : Rising (length kinds) (streak_of kinds)
  streak_rises i j l h = rw (streak_of_made kinds) (numbers_rise (streak_marks kinds) i j l (omega (arith, length-streak_marks kinds)))

  pub pattern_rises : Rising (length kinds) (alternating_of kinds)
  pattern_rises =
      rw (← alternating_of_looked kinds)
      (gathered_rises (length kinds) (patterns_open kinds) (streak_of kinds) (length-streak_of kinds)
      (λ i h. omega (arith, streak-below kinds i h, length-patterns_open kinds)) streak_rises)

  pub hit_rises : Rising (length kinds) (hit_of kinds)
  hit_rises =
      rw (← hit_of_looked kinds)
      (gathered_rises (length kinds) (hits_open kinds) (alternating_of kinds) (length-alternating_of kinds)
      (λ i h. omega (arith, alternating_of-below kinds i h, length-hits_open kinds)) pattern_rises)
