-- The encoder's tables, looked up for one object: each number is in range, and what stands there is the definition's.
use mathlib.Core.Path.{◌≡◌, refl, sym, ap, ◌∙◌}
use mathlib.Core.List.{List}
use mathlib.Core.Bool.{true, cond, not}
use Prim.Native.Nat.{ℕ, zero, suc, ◌-◌, ◌<◌}
use native.Mathlib.Omega.{arith}
use borrow.Author.Tests.{eq-eqb}
use lib.Dec.{eqb, eqb-suc-zero}
use lib.ListN.{length, get_or}
use lib.Ieee.{Float, nan, binary64, mul}
use Rattle.lent.proofs.FillLaws.{length-gathered, get_or-gathered}
use Rattle.grouping_colour.specs.MonoStreak.{streak_of, streak_firsts}
use Rattle.grouping_colour.proofs.StreakListLaws.{length-streak_of}
use Rattle.grouping_colour.proofs.EndLaws.{streak_first_where, streak_first_start}
use Rattle.grouping_preprocessor.specs.passes.LookUps.{streaks, streak_places, patterns, pattern_places, hits, intervals, TablesOf}
use Rattle.grouping_preprocessor.specs.declared.tables.Tables.{Tables}
use Rattle.grouping_preprocessor.proofs.LookUpsLaws.{streak_places_are, patterns_are, pattern_places_are, hits_are, intervals_are, linked}
use Rattle.evaluator_colour.specs.Formulas.{object_sum}
use Rattle.evaluator_colour.specs.RatioPenalty.{ratio_penalty}
use Rattle.evaluator_values.specs.Colour.{is_first, standing_at, colour_at}
use Rattle.evaluator_values.specs.passes.Tables.{ObjectIn, NumbersAt, looked_up, looked_colour}
use Rattle.evaluator_values.specs.declared.Numbers.{Numbers}
use Rattle.evaluator_values.proofs.StandingLaws.{same_standing}

-- ---- what is looked up
module _ {t : Tables} {i : ℕ} (o : ObjectIn t i) where
  in_patterns : i < length (patterns t)
  in_patterns = omega (arith, length-gathered t.pattern.now (streaks t), o.within)

  in_hits : i < length (hits t)
  in_hits = omega (arith, length-gathered t.hit.now (patterns t), in_patterns)

  pattern_at : get_or t.pattern.now (get_or (streaks t) i 0) 0 ≡ get_or (patterns t) i 0
  pattern_at = sym (get_or-gathered t.pattern.now (streaks t) i o.within)

  pub pattern_in : get_or t.pattern.now (get_or (streaks t) i 0) 0 < length t.hit.now
  pattern_in = rw pattern_at (o.linked.hit i in_patterns)

  pub numbers_are : NumbersAt t i
      (record {
        streak = get_or (streaks t) i 0;
        pattern = get_or t.pattern.now (get_or (streaks t) i 0) 0;
        hit = get_or t.hit.now (get_or t.pattern.now (get_or (streaks t) i 0) 0) 0;
      })
  numbers_are = record {
    streaks = refl;
    patterns = pattern_at;
    hits = ap (λ (j : ℕ). get_or t.hit.now j 0) pattern_at ∙ sym (get_or-gathered t.hit.now (patterns t) i in_patterns);
  }

  module _ {r : Numbers} (a : NumbersAt t i r) where
    pub hit_in : r.hit < length t.interval.now
    hit_in = rw a.hits (o.linked.interval i in_hits)

    pub place_in : r.pattern < length t.pattern_place.now
    place_in = rw a.patterns (o.linked.pattern_place i in_patterns)

    pub interval_is : get_or t.interval.now r.hit 0 ≡ get_or (intervals t) i 0
    interval_is = rw a.hits (sym (get_or-gathered t.interval.now (hits t) i in_hits))

    pub pattern-place_is : get_or t.pattern_place.now r.pattern 0 ≡ get_or (pattern_places t) i 0
    pattern-place_is = rw a.patterns (sym (get_or-gathered t.pattern_place.now (patterns t) i in_patterns))

    pub first_in : r.streak < length t.first.now
    first_in = rw a.streaks (o.linked.first i o.within)

    pub first_is : (first : ℕ) → first ≡ get_or t.first.now r.streak 0 → eqb first i ≡ eqb (get_or t.first.now (get_or (streaks t) i 0) 0) i
    first_is first e = rw (e, a.streaks) refl

    pub streak-place_is : get_or t.streak_place.now r.streak 0 ≡ get_or (streak_places t) i 0
    streak-place_is = rw a.streaks (sym (get_or-gathered t.streak_place.now (streaks t) i o.within))

-- ---- by the definitions
module _ {limit : ℕ} {kinds : List ℕ} {t : Tables} (e : TablesOf limit kinds t) where
  pub object_in : (i : ℕ) → i < length kinds → ObjectIn t i
  object_in i h = record { linked = linked e; within = omega (arith, ap length e.streak, length-streak_of kinds) }

  -- the streak's first object is this one where the object before it, if there is one, is of another streak
  streak-first_is : (i : ℕ) → i < length kinds → eqb (get_or t.first.now (get_or (streaks t) i 0) 0) i ≡ is_first (streak_of kinds) i
  unfolding is_first
  streak-first_is i h = rw (e.first, e.streak) (by i h)
    where
      by : (i : ℕ) → i < length kinds → eqb (get_or (streak_firsts kinds) (get_or (streak_of kinds) i 0) 0) i
          ≡ cond (eqb i 0) true (not (eqb (get_or (streak_of kinds) i 0) (get_or (streak_of kinds) (i - 1) 0)))
      by zero h = eq-eqb _ 0 (streak_first_start kinds h)
      by (suc i) h =
          let before : i ≡ suc i - 1 = omega arith in
          rw (eqb-suc-zero i, ← before) (streak_first_where kinds i h)

  standing_is : (i : ℕ) → i < length kinds → looked_up t i ≡ standing_at limit kinds i
  unfolding looked_up standing_at
  standing_is i h = same_standing (record {
    interval = ap (λ l. get_or l i 0) (intervals_are e);
    pattern_place = ap (λ l. get_or l i 0) (pattern_places_are e);
    streak_place = ap (λ l. get_or l i 0) (streak_places_are e);
    streak = streak-first_is i h;
    pattern = ap (λ l. is_first l i) (patterns_are e);
    hit = ap (λ l. is_first l i) (hits_are e);
  })

  pub colour_is : (tolerance : Float) (ratios : List Float) (i : ℕ)
      → i < length kinds → looked_colour tolerance ratios t i ≡ colour_at limit tolerance kinds ratios i
  unfolding looked_colour colour_at
  colour_is tolerance ratios i h =
      ap (λ s. mul binary64 (object_sum s) (ratio_penalty tolerance i (get_or ratios i nan) (get_or ratios (i - 2) nan))) (standing_is i h)
