-- Scope, mono_streak.rs: an object whose previous note has its kind continues the open streak, others open one.
-- A NonHit is no note, so it always opens one, and a note after it may continue that one.
use Rattle.std.specs.Prelude.{ℕ, Bool, false, cond, List, eqb, length, get_or, Option, Some, None}
use Rattle.lent.specs.Scan.{tabulate}
use Rattle.grouping_marks.specs.Marks.{group_numbers, group_sizes, group_firsts, first_items, last_items}
use Rattle.grouping_chart.specs.Object.{previous_kind}

-- whether an object of kind k continues the open streak, by its previous note's kind (the first object has none)
unfoldable pub continues : Option ℕ → ℕ → Bool
continues None k = false
continues (Some p) k = eqb p k

unfoldable pub opens_streak : List ℕ → ℕ → ℕ
opens_streak kinds i = cond (continues (previous_kind kinds i) (get_or kinds i 0)) 0 1

unfoldable pub streak_marks : List ℕ → List ℕ
streak_marks kinds = tabulate (opens_streak kinds) (length kinds)

-- each object's streak; each streak's length and type, which is its first object's kind
unfoldable pub streak_of : List ℕ → List ℕ
streak_of kinds = group_numbers (streak_marks kinds)

unfoldable pub streak_lengths : List ℕ → List ℕ
streak_lengths kinds = group_sizes (streak_marks kinds)

unfoldable pub streak_types : List ℕ → List ℕ
streak_types kinds = group_firsts (streak_marks kinds) kinds

-- each streak's first object and its last
unfoldable pub streak_firsts : List ℕ → List ℕ
streak_firsts kinds = first_items (streak_marks kinds)

unfoldable pub streak_lasts : List ℕ → List ℕ
streak_lasts kinds = last_items (streak_marks kinds)
