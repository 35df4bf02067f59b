-- The regions as the encoder leaves them: all the lists of `encoder_writes` written, in order, over the eight regions, of which each is
-- left with what was written over it last. The tables are read back there.
use mathlib.Core.Path.{◌≡◌, refl, sym, ap, ◌∙◌, subst}
use mathlib.Core.Bool.{true}
use mathlib.Core.List.{List, [], ◌∷◌}
use Prim.Native.Nat.{ℕ, ◌*◌, ◌≤◌}
use native.Mathlib.Nat.{le_refl}
use native.Mathlib.Omega.{arith}
use borrow.Author.Tests.{ltb-true}
use lib.Dec.{ltb}
use lib.ListN.{length, take, drop, get_or, set}
use Rattle.lent.specs.Over.{over, put, part, written}
use Rattle.lent.proofs.OverLaws.{front}
use Rattle.lent.proofs.PieceLaws.{over_whole, over-absorb}
use Rattle.lent.proofs.JoinLaws.{join, Each, put_region, each_put, part_region, length-join, drop-join}
use Rattle.grouping_marks.specs.Marks.{group_count, group_numbers, group_places}
use Rattle.grouping_marks.proofs.MarksLaws.{count_le, length-numbers, length-places, length-sizes, length-firsts}
use Rattle.grouping_hits.specs.RepeatingHitPatterns.{second_lengths}
use Rattle.grouping_hits.proofs.LengthLaws.{length-second_lengths}
use Rattle.grouping_colour.specs.MonoStreak.{streak_marks, streak_of, streak_lengths, streak_types, streak_firsts, streak_lasts}
use Rattle.grouping_colour.proofs.LengthLaws.{length-streak_marks, length-coupled}
use Rattle.grouping_colour.proofs.StreakListLaws.{streak_types_made, length-streak_of, length-streak_lengths}
use Rattle.grouping_colour.proofs.EndLaws.{length-streak_firsts, length-streak_lasts}
use Rattle.grouping_preprocessor.specs.Preprocessor.{patterns_open, first_lengths, streak_counts, pattern_types, coupled_patterns, hits_open, hit_count}
use Rattle.grouping_preprocessor.specs.Preprocessor.{hit_sizes, hit_firsts, hit_seconds, hit_intervals}
use Rattle.grouping_preprocessor.specs.passes.Writes.{streak_writes, pattern_writes, hit_mark_writes, hit_writes, coupled_writes, end_writes, encoder_writes}
use Rattle.grouping_preprocessor.specs.passes.Steps.{Outside, Encodes}
use Rattle.grouping_preprocessor.proofs.BoundLaws.{length-patterns_open, length-hits_open, length-hit_intervals}

-- ---- the lists' lengths

module _ (kinds : List ℕ) where
  pub length-types : length (streak_types kinds) ≡ group_count (streak_marks kinds)
  length-types = rw (streak_types_made kinds) (length-firsts (streak_marks kinds) kinds (omega (arith, length-streak_marks kinds)))

  pub length-first_lengths : length (first_lengths kinds) ≡ group_count (patterns_open kinds)
  unfolding first_lengths
  length-first_lengths =
      length-firsts (patterns_open kinds) (streak_lengths kinds) (omega (arith, length-patterns_open kinds, length-streak_lengths kinds))

  pub length-streak_counts : length (streak_counts kinds) ≡ group_count (patterns_open kinds)
  unfolding streak_counts
  length-streak_counts = length-sizes (patterns_open kinds)

  pub length-pattern_types : length (pattern_types kinds) ≡ group_count (patterns_open kinds)
  unfolding pattern_types
  length-pattern_types = length-firsts (patterns_open kinds) (streak_types kinds) (omega (arith, length-patterns_open kinds, length-types))

  length-coupled_patterns : length (coupled_patterns kinds) ≡ group_count (patterns_open kinds)
  unfolding coupled_patterns
  length-coupled_patterns = length-coupled (first_lengths kinds) (streak_counts kinds) (pattern_types kinds) ∙ length-first_lengths

  seconds : List ℕ
  seconds = second_lengths (first_lengths kinds) (hits_open kinds)

  length-seconds : length seconds ≡ group_count (patterns_open kinds)
  unfolding seconds
  length-seconds = length-second_lengths (first_lengths kinds) (hits_open kinds) ∙ length-first_lengths

  pub length-hit_sizes : length (hit_sizes kinds) ≡ group_count (hits_open kinds)
  unfolding hit_sizes
  length-hit_sizes = length-sizes (hits_open kinds)

  length-hit_firsts : length (hit_firsts kinds) ≡ group_count (hits_open kinds)
  unfolding hit_firsts
  length-hit_firsts = length-firsts (hits_open kinds) (first_lengths kinds) (omega (arith, length-hits_open kinds, length-first_lengths))

  length-hit_seconds : length (hit_seconds kinds) ≡ group_count (hits_open kinds)
  unfolding hit_seconds seconds
  length-hit_seconds = length-firsts (hits_open kinds) seconds (omega (arith, length-hits_open kinds, length-seconds))

-- ---- a region's place

place-0 : (n : ℕ) → 0 ≡ 0 * n
place-0 n = omega arith

place-1 : (n : ℕ) → n ≡ 1 * n
place-1 n = omega arith

-- ---- the regions as the encoder leaves them, of what they were

module _ (limit : ℕ) (kinds streak₀ lengths₀ types₀ numbers₀ places₀ counts₀ hits₀ marks₀ rest : List ℕ) where
  abbrev pub before : List (List ℕ)
  before = streak₀ ∷ lengths₀ ∷ types₀ ∷ numbers₀ ∷ places₀ ∷ counts₀ ∷ hits₀ ∷ marks₀ ∷ []

  abbrev pub after : List (List ℕ)
  after =
      streak_of kinds
      ∷ over (group_numbers (hits_open kinds)) (over (first_lengths kinds) (over (streak_lengths kinds) lengths₀))
      ∷ over (group_places (hits_open kinds)) (over (pattern_types kinds) (over (streak_types kinds) types₀))
      ∷ over (group_numbers (patterns_open kinds)) numbers₀
      ∷ over (group_places (patterns_open kinds)) places₀
      ∷ over (streak_firsts kinds) (over (hit_sizes kinds) (over (streak_counts kinds) counts₀))
      ∷ over (streak_lasts kinds) (over (hits_open kinds) hits₀)
      ∷ over (hit_intervals limit kinds) (over (patterns_open kinds) (streak_marks kinds))
      ∷ []

  -- the slice is these regions, one after the other
  pub record Laid (n : ℕ) (w : List ℕ) (regions : List (List ℕ)) : Type 0 where
    pub is : w ≡ join regions rest
    pub each : Each n regions

  -- a list is written over one of them
  step : {n m : ℕ} {w : List ℕ} {regions : List (List ℕ)} → Laid n w regions → (r a : ℕ) (x : List ℕ) → a ≡ r * n → ltb r (length regions) ≡ true
      → length x ≡ m → m ≤ n → Laid n (put a x w) (set regions r (over x (get_or regions r [])))
  step {n} {regions = regions} k r a x q h e l =
      let few : length x ≤ n = omega arith in
      record {
        is = ap (put a x) k.is ∙ put_region n regions rest x r a q k.each (ltb-true r (length regions) h) few;
        each = each_put n regions x r k.each few;
      }

  -- what is written over each, in order
  abbrev stored : List (List ℕ)
  stored =
      over (streak_of kinds) streak₀
      ∷ over (group_numbers (hits_open kinds)) (over (hit_firsts kinds) (over (first_lengths kinds) (over (streak_lengths kinds) lengths₀)))
      ∷ over (group_places (hits_open kinds)) (over (hit_seconds kinds) (over (seconds kinds) (over (pattern_types kinds) (over (streak_types kinds) types₀))))
      ∷ over (group_numbers (patterns_open kinds)) numbers₀
      ∷ over (group_places (patterns_open kinds)) places₀
      ∷ over (streak_firsts kinds) (over (hit_sizes kinds) (over (streak_counts kinds) counts₀))
      ∷ over (streak_lasts kinds) (over (hits_open kinds) (over (coupled_patterns kinds) hits₀))
      ∷ over (hit_intervals limit kinds) (over (patterns_open kinds) (over (streak_marks kinds) marks₀))
      ∷ []

  module _ {w₀ : List ℕ} (k : Laid (length kinds) w₀ before) where
    marks_long : length (streak_marks kinds) ≡ length kinds
    marks_long = length-streak_marks kinds

    streaks_few : group_count (streak_marks kinds) ≤ length kinds
    streaks_few = omega (arith, count_le (streak_marks kinds), marks_long)

    patterns_few : group_count (patterns_open kinds) ≤ group_count (streak_marks kinds)
    patterns_few = omega (arith, count_le (patterns_open kinds), length-patterns_open kinds)

    hits_few : group_count (hits_open kinds) ≤ group_count (patterns_open kinds)
    hits_few = omega (arith, count_le (hits_open kinds), length-hits_open kinds)

    numbers_long : length (group_numbers (hits_open kinds)) ≡ group_count (patterns_open kinds)
    numbers_long = length-numbers (hits_open kinds) ∙ length-hits_open kinds

    places_long : length (group_places (hits_open kinds)) ≡ group_count (patterns_open kinds)
    places_long = length-places (hits_open kinds) ∙ length-hits_open kinds

    pattern-numbers_long : length (group_numbers (patterns_open kinds)) ≡ group_count (streak_marks kinds)
    pattern-numbers_long = length-numbers (patterns_open kinds) ∙ length-patterns_open kinds

    pattern-places_long : length (group_places (patterns_open kinds)) ≡ group_count (streak_marks kinds)
    pattern-places_long = length-places (patterns_open kinds) ∙ length-patterns_open kinds

    le_patterns : group_count (patterns_open kinds) ≤ length kinds
    le_patterns = omega (arith, patterns_few, streaks_few)

    le_hits : group_count (hits_open kinds) ≤ length kinds
    le_hits = omega (arith, hits_few, le_patterns)

    -- every list is written over its region, in order
    laid : Laid (length kinds) (written (encoder_writes limit kinds) w₀) stored
    unfolding encoder_writes streak_writes pattern_writes hit_mark_writes hit_writes coupled_writes end_writes seconds patterns_open first_lengths
        streak_counts pattern_types hits_open hit_sizes hit_firsts hit_seconds hit_intervals hit_count
    laid =
        let n : ℕ = length kinds in
        let s-1 = step k 7 (7 * n) (streak_marks kinds) refl refl (length-streak_marks kinds) (le_refl n) in
        let s-2 = step s-1 0 0 (streak_of kinds) (place-0 n) refl (length-streak_of kinds) (le_refl n) in
        let s-3 = step s-2 2 (2 * n) (streak_types kinds) refl refl (length-types kinds) streaks_few in
        let s-4 = step s-3 1 n (streak_lengths kinds) (place-1 n) refl (length-streak_lengths kinds) streaks_few in
        let s-5 = step s-4 7 (7 * n) (patterns_open kinds) refl refl (length-patterns_open kinds) streaks_few in
        let s-6 = step s-5 3 (3 * n) (group_numbers (patterns_open kinds)) refl refl pattern-numbers_long streaks_few in
        let s-7 = step s-6 4 (4 * n) (group_places (patterns_open kinds)) refl refl pattern-places_long streaks_few in
        let s-8 = step s-7 1 n (first_lengths kinds) (place-1 n) refl (length-first_lengths kinds) le_patterns in
        let s-9 = step s-8 2 (2 * n) (pattern_types kinds) refl refl (length-pattern_types kinds) le_patterns in
        let s-10 = step s-9 5 (5 * n) (streak_counts kinds) refl refl (length-streak_counts kinds) le_patterns in
        let s-11 = step s-10 6 (6 * n) (coupled_patterns kinds) refl refl (length-coupled_patterns kinds) le_patterns in
        let s-12 = step s-11 6 (6 * n) (hits_open kinds) refl refl (length-hits_open kinds) le_patterns in
        let s-13 = step s-12 2 (2 * n) (seconds kinds) refl refl (length-seconds kinds) le_patterns in
        let s-14 = step s-13 5 (5 * n) (hit_sizes kinds) refl refl (length-hit_sizes kinds) le_hits in
        let s-15 = step s-14 1 n (hit_firsts kinds) (place-1 n) refl (length-hit_firsts kinds) le_hits in
        let s-16 = step s-15 2 (2 * n) (hit_seconds kinds) refl refl (length-hit_seconds kinds) le_hits in
        let s-17 = step s-16 7 (7 * n) (hit_intervals limit kinds) refl refl (length-hit_intervals kinds limit) le_hits in
        let s-18 = step s-17 1 n (group_numbers (hits_open kinds)) (place-1 n) refl numbers_long le_patterns in
        let s-19 = step s-18 2 (2 * n) (group_places (hits_open kinds)) refl refl places_long le_patterns in
        let s-20 = step s-19 6 (6 * n) (streak_lasts kinds) refl refl (length-streak_lasts kinds) streaks_few in
        step s-20 5 (5 * n) (streak_firsts kinds) refl refl (length-streak_firsts kinds) streaks_few

    streak_left : over (streak_of kinds) streak₀ ≡ streak_of kinds
    streak_left = over_whole (streak_of kinds) streak₀ (length-streak_of kinds ∙ sym k.each.0)

    marks_left : over (streak_marks kinds) marks₀ ≡ streak_marks kinds
    marks_left = over_whole (streak_marks kinds) marks₀ (marks_long ∙ sym k.each.1.1.1.1.1.1.1.0)

    firsts_left : (old : List ℕ) → over (group_numbers (hits_open kinds)) (over (hit_firsts kinds) old) ≡ over (group_numbers (hits_open kinds)) old
    firsts_left old = over-absorb (hit_firsts kinds) (group_numbers (hits_open kinds)) old (omega (arith, length-hit_firsts kinds, numbers_long, hits_few))

    seconds_left : (old : List ℕ)
        → over (group_places (hits_open kinds)) (over (hit_seconds kinds) (over (seconds kinds) old)) ≡ over (group_places (hits_open kinds)) old
    seconds_left old =
        over-absorb (hit_seconds kinds) (group_places (hits_open kinds)) (over (seconds kinds) old)
        (omega (arith, length-hit_seconds kinds, places_long, hits_few))
        ∙ over-absorb (seconds kinds) (group_places (hits_open kinds)) old (omega (arith, length-seconds kinds, places_long))

    flags_left : over (hits_open kinds) (over (coupled_patterns kinds) hits₀) ≡ over (hits_open kinds) hits₀
    flags_left = over-absorb (coupled_patterns kinds) (hits_open kinds) hits₀ (omega (arith, length-coupled_patterns kinds, length-hits_open kinds))

    -- and what is written over is of no account
    same_after : stored ≡ after
    same_after = λ i.
        streak_left i
        ∷ firsts_left (over (first_lengths kinds) (over (streak_lengths kinds) lengths₀)) i
        ∷ seconds_left (over (pattern_types kinds) (over (streak_types kinds) types₀)) i
        ∷ over (group_numbers (patterns_open kinds)) numbers₀
        ∷ over (group_places (patterns_open kinds)) places₀
        ∷ over (streak_firsts kinds) (over (hit_sizes kinds) (over (streak_counts kinds) counts₀))
        ∷ over (streak_lasts kinds) (flags_left i)
        ∷ over (hit_intervals limit kinds) (over (patterns_open kinds) (marks_left i))
        ∷ []

    all_left : join after rest ≡ written (encoder_writes limit kinds) w₀
    all_left = sym (laid.is ∙ ap (λ (l : List (List ℕ)). join l rest) same_after)

    each_after : Each (length kinds) after
    each_after = subst (Each (length kinds)) same_after laid.each

    module _ {w : List ℕ} (e : w ≡ join after rest) (s p h : ℕ) (cs : s ≡ group_count (streak_marks kinds)) (cp : p ≡ group_count (patterns_open kinds))
        (ch : h ≡ group_count (hits_open kinds)) where
      -- a region is read back as far as its last list goes
      read : {k : ℕ} {new : List ℕ} (r a : ℕ) (old : List ℕ) → a ≡ r * length kinds → ltb r (length after) ≡ true
          → get_or after r [] ≡ over new old → length new ≡ k → k ≤ length kinds → part a k w ≡ new
      read {k} {new} r a old q l g f u =
          ap (part a k) e ∙ part_region (length kinds) after rest r a k q each_after (ltb-true r (length after) l) u ∙ ap (take k) g ∙ front new old k f

      outside : Outside (length kinds) w₀ w
      outside = record {
        same = ap length e ∙ length-join (length kinds) after rest each_after ∙ sym (ap length k.is ∙ length-join (length kinds) before rest k.each);
        beyond = ap (drop (8 * length kinds)) e ∙ drop-join (length kinds) after rest each_after
            ∙ sym (ap (drop (8 * length kinds)) k.is ∙ drop-join (length kinds) before rest k.each);
      }

      pub all_levels : Encodes limit kinds w₀ w (record { streaks = s; patterns = p; hits = h; limit = limit })
      unfolding hit_count
      all_levels =
          let n : ℕ = length kinds in
          let few_s : s ≤ n = omega (arith, streaks_few) in
          let few_p : p ≤ n = omega (arith, le_patterns) in
          let few_h : h ≤ n = omega (arith, le_hits) in
          record {
            memory = e ∙ all_left;
            tables = record {
              count_s = cs;
              count_p = cp;
              count_h = ch;
              searched = refl;
              few_s = few_s;
              few_p = few_p;
              few_h = few_h;
              streak = read 0 0 _ (place-0 n) refl (sym streak_left) (length-streak_of kinds) (le_refl n);
              pattern = read 3 (3 * n) _ refl refl refl (pattern-numbers_long ∙ sym cs) few_s;
              streak-place = read 4 (4 * n) _ refl refl refl (pattern-places_long ∙ sym cs) few_s;
              hit = read 1 n _ (place-1 n) refl refl (numbers_long ∙ sym cp) few_p;
              pattern-place = read 2 (2 * n) _ refl refl refl (places_long ∙ sym cp) few_p;
              interval = read 7 (7 * n) _ refl refl refl (length-hit_intervals kinds limit ∙ sym ch) few_h;
              first = read 5 (5 * n) _ refl refl refl (length-streak_firsts kinds ∙ sym cs) few_s;
              last = read 6 (6 * n) _ refl refl refl (length-streak_lasts kinds ∙ sym cs) few_s;
              outside = outside;
            };
          }
