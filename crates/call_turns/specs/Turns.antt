-- Where the colour turns (change requests: 8/12; scope: color_data.rs): of each object the note before its streak and
-- the note after it, by their numbers among the notes.
use Rattle.std.specs.Prelude.{ℕ, List, length, get_or, Option, Some, None}
use Rattle.lent.specs.Scan.{tabulate}
use Rattle.grouping_chart.specs.Object.{previous_note, next_note}
use Rattle.grouping_colour.specs.MonoStreak.{streak_of, streak_firsts, streak_lasts}

-- the first and the last object of the streak that has object i
unfoldable pub streak_first : List ℕ → ℕ → ℕ
streak_first kinds i = get_or (streak_firsts kinds) (get_or (streak_of kinds) i 0) 0

unfoldable pub streak_last : List ℕ → ℕ → ℕ
streak_last kinds i = get_or (streak_lasts kinds) (get_or (streak_of kinds) i 0) 0

unfoldable pub previous_colour_change : List ℕ → ℕ → Option ℕ
previous_colour_change kinds i = previous_note kinds (streak_first kinds i)

unfoldable pub next_colour_change : List ℕ → ℕ → Option ℕ
next_colour_change kinds i = next_note kinds (streak_last kinds i)

-- what is answered: a note's number, or 65535 where there is none
unfoldable pub note_told : Option ℕ → ℕ
note_told None = 65535
note_told (Some j) = j

unfoldable pub previous_changes : List ℕ → List ℕ
previous_changes kinds = tabulate (λ i. note_told (previous_colour_change kinds i)) (length kinds)

unfoldable pub next_changes : List ℕ → List ℕ
next_changes kinds = tabulate (λ i. note_told (next_colour_change kinds i)) (length kinds)
