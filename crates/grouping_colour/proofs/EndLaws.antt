-- What is kept of every streak: its first object and its last, by the laws of marks.
use mathlib.Core.Path.{◌≡◌, refl, sym, ap, ◌∙◌}
use mathlib.Core.Bool.{false, not, cond}
use mathlib.Core.List.{List}
use Prim.Native.Nat.{ℕ, zero, suc, ◌+◌, ◌<◌}
use native.Mathlib.Omega.{arith}
use borrow.Author.Tests.{eqb-true, ne_eqb}
use lib.Dec.{eqb}
use lib.ListN.{length, get_or}
use Rattle.std.specs.Prelude.{Option, option_map}
use Rattle.lent.proofs.FillLaws.{get_or-tabulate}
use Rattle.grouping_marks.specs.Marks.{group_count, first_items, last_items}
use Rattle.grouping_marks.proofs.ItemLaws.{length-first_items, length-last_items, first-below, last-below, next_first, item_size, first_where, first_start}
use Rattle.grouping_marks.proofs.ItemLaws.{last_number}
use Rattle.grouping_marks.proofs.NumberLaws.{number_opens}
use Rattle.grouping_chart.specs.Object.{is_note, notes}
use Rattle.grouping_chart.proofs.NotesLaws.{previous_none}
use Rattle.grouping_colour.specs.MonoStreak.{continues, opens_streak, streak_marks, streak_of, streak_lengths, streak_firsts, streak_lasts}
use Rattle.grouping_colour.proofs.LengthLaws.{length-streak_marks}
use Rattle.grouping_colour.proofs.StreakListLaws.{streak_of_made}

module _ (kinds : List ℕ) where
  pub streak_firsts_made : streak_firsts kinds ≡ first_items (streak_marks kinds)
  unfolding streak_firsts
  streak_firsts_made = refl

  pub streak_lasts_made : streak_lasts kinds ≡ last_items (streak_marks kinds)
  unfolding streak_lasts
  streak_lasts_made = refl

  pub length-streak_firsts : length (streak_firsts kinds) ≡ group_count (streak_marks kinds)
  unfolding streak_firsts
  length-streak_firsts = length-first_items (streak_marks kinds)

  pub length-streak_lasts : length (streak_lasts kinds) ≡ group_count (streak_marks kinds)
  unfolding streak_lasts
  length-streak_lasts = length-last_items (streak_marks kinds)

  -- ---- of streak j
  module _ (j : ℕ) (h : j < group_count (streak_marks kinds)) where
    pub streak_first-below : get_or (streak_firsts kinds) j 0 < length kinds
    unfolding streak_firsts
    streak_first-below = omega (arith, first-below (streak_marks kinds) j h, length-streak_marks kinds)

    pub streak_last-below : get_or (streak_lasts kinds) j 0 < length kinds
    unfolding streak_lasts
    streak_last-below = omega (arith, last-below (streak_marks kinds) j h, length-streak_marks kinds)

    pub streak_size : get_or (streak_lasts kinds) j 0 + 1 ≡ get_or (streak_firsts kinds) j 0 + get_or (streak_lengths kinds) j 0
    unfolding streak_firsts streak_lasts streak_lengths
    streak_size = item_size (streak_marks kinds) j h

    -- its last object is one of its own
    pub streak_of_last : get_or (streak_of kinds) (get_or (streak_lasts kinds) j 0) 0 ≡ j
    unfolding streak_of streak_lasts
    streak_of_last = last_number (streak_marks kinds) j h

  -- the next streak begins behind it
  pub streak_next : (j : ℕ) → suc j < group_count (streak_marks kinds) → get_or (streak_firsts kinds) (suc j) 0 ≡ get_or (streak_lasts kinds) j 0 + 1
  unfolding streak_firsts streak_lasts
  streak_next j h = next_first (streak_marks kinds) j h

  -- an object is the first of its streak where the table says so: the chart's first, and each that is not of the streak of the one before it
  pub streak_first_where : (i : ℕ) → suc i < length kinds
      → eqb (get_or (streak_firsts kinds) (get_or (streak_of kinds) (suc i) 0) 0) (suc i)
      ≡ not (eqb (get_or (streak_of kinds) (suc i) 0) (get_or (streak_of kinds) i 0))
  unfolding streak_firsts streak_of
  streak_first_where i h = first_where (streak_marks kinds) i (omega (arith, length-streak_marks kinds))

  pub streak_first_start : 0 < length kinds → get_or (streak_firsts kinds) (get_or (streak_of kinds) 0 0) 0 ≡ 0
  unfolding streak_firsts streak_of
  streak_first_start h = first_start (streak_marks kinds) (omega (arith, length-streak_marks kinds))

  -- ---- a NonHit is only ever the first of its streak

  nonhit_opens : (i : ℕ) → i < length kinds → is_note (get_or kinds i 0) ≡ false → get_or (streak_marks kinds) i 0 ≡ 1
  unfolding streak_marks opens_streak continues
  nonhit_opens i h e =
      get_or-tabulate (opens_streak kinds) (length kinds) i 0 h
      ∙ ap (λ (p : Option ℕ). cond (continues (option_map (λ j. get_or (notes kinds) j 0) p) (get_or kinds i 0)) 0 1) (previous_none kinds i e)

  pub nonhit_first : (i : ℕ) → i < length kinds → is_note (get_or kinds i 0) ≡ false → get_or (streak_firsts kinds) (get_or (streak_of kinds) i 0) 0 ≡ i
  nonhit_first zero h e = streak_first_start h
  nonhit_first (suc i) h e =
      let next : get_or (streak_of kinds) (suc i) 0 ≡ get_or (streak_of kinds) i 0 + 1 = rw (streak_of_made kinds)
      (number_opens (streak_marks kinds) i (omega (arith, length-streak_marks kinds)) (nonhit_opens (suc i) h e)) in
      let other : get_or (streak_of kinds) (suc i) 0 ≡ get_or (streak_of kinds) i 0 → ⊥ = λ q. omega (arith, next, q) in
      eqb-true _ _ (streak_first_where i h ∙ ap not (ne_eqb _ _ other))

  -- so where one is the last, it is all of its streak
  pub nonhit_alone : (j : ℕ) → j < group_count (streak_marks kinds) → is_note (get_or kinds (get_or (streak_lasts kinds) j 0) 0) ≡ false
      → get_or (streak_firsts kinds) j 0 ≡ get_or (streak_lasts kinds) j 0
  nonhit_alone j h e =
      ap (λ (k : ℕ). get_or (streak_firsts kinds) k 0) (sym (streak_of_last j h))
      ∙ nonhit_first (get_or (streak_lasts kinds) j 0) (streak_last-below j h) e
