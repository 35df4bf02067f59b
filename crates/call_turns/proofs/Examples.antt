-- Charts of d, k and n, which are 0, 1 and 2, with what turns says of each object: the definitions compute to these numbers.
use mathlib.Core.Path.{◌≡◌, refl}
use mathlib.Core.List.{List, [], ◌∷◌, map}
use Prim.Native.Nat.{ℕ}
use Rattle.lent.specs.Scan.{scan, tabulate}
use Rattle.grouping_marks.specs.Marks.{opened, group_numbers, firsts_from, group_firsts, lasts_from, group_lasts, first_items, last_items}
use Rattle.grouping_chart.specs.Object.{is_note, notes, note_idx, note_before, note_following, previous_note, next_note}
use Rattle.grouping_colour.specs.MonoStreak.{continues, opens_streak, streak_marks, streak_of, streak_firsts, streak_lasts}
use Rattle.call_turns.specs.Turns.{streak_first, streak_last, previous_colour_change, next_colour_change, note_told, previous_changes, next_changes}

abbrev pub none : ℕ
none = 65535

pub record Example : Type 0 where
  pub kinds : List ℕ
  pub previous : List ℕ
  pub next : List ℕ

unfoldable pub example : List ℕ → List ℕ → List ℕ → Example
example kinds previous next = record { kinds = kinds; previous = previous; next = next }

unfoldable pub examples : List Example
unfolding example
examples =
    -- no objects; one note; a roll alone
    example [] [] []
    ∷ example (0 ∷ []) (none ∷ []) (none ∷ [])
    ∷ example (2 ∷ []) (none ∷ []) (none ∷ [])
    -- ddk: the k is note 2, and the d before it note 1
    ∷ example (0 ∷ 0 ∷ 1 ∷ []) (none ∷ none ∷ 1 ∷ []) (2 ∷ 2 ∷ none ∷ [])
    -- dkdn: the roll is a streak of its own, whose next note is said to be note 1
    ∷ example (0 ∷ 1 ∷ 0 ∷ 2 ∷ []) (none ∷ 0 ∷ 1 ∷ none ∷ []) (1 ∷ 2 ∷ none ∷ 1 ∷ [])
    -- dnd: the second d is of the roll's streak, so it has no note before it, and the first d has the second after it
    ∷ example (0 ∷ 2 ∷ 0 ∷ []) (none ∷ none ∷ none ∷ []) (1 ∷ none ∷ none ∷ [])
    -- nnkd: the k is the first note, which joins no roll
    ∷ example (2 ∷ 2 ∷ 1 ∷ 0 ∷ []) (none ∷ none ∷ none ∷ 0 ∷ []) (1 ∷ 1 ∷ 1 ∷ none ∷ [])
    ∷ []

pub examples_right : (map (λ (e : Example). previous_changes e.kinds) examples ≡ map (λ (e : Example). e.previous) examples)
    × (map (λ (e : Example). next_changes e.kinds) examples ≡ map (λ (e : Example). e.next) examples)
unfolding example examples previous_changes next_changes previous_colour_change next_colour_change streak_first streak_last note_told
    is_note notes note_idx note_before note_following previous_note next_note continues opens_streak streak_marks streak_of streak_firsts streak_lasts
    first_items last_items opened group_numbers firsts_from group_firsts lasts_from group_lasts tabulate scan
examples_right = (refl, refl)
