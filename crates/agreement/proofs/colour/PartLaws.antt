-- A chart that is cut where a streak, a pattern and a hit pattern open together: what encode says behind the cut hangs on the marks behind it alone.
use mathlib.Core.Path.{◌≡◌, sym, ap, ◌∙◌, subst}
use mathlib.Core.List.{List, ◌++◌}
use Prim.Native.Nat.{ℕ, ◌+◌, ◌-◌, ◌≤◌, ◌<◌}
use native.Mathlib.Omega.{arith}
use lib.ListN.{length, get_or, drop, length-append}
use lib.Seq.{drop_at}
use Rattle.lent.specs.Scan.{tabulate, gathered}
use Rattle.grouping_marks.specs.Marks.{group_count, group_numbers, group_places, group_sizes, group_firsts}
use Rattle.lent.proofs.FillLaws.{length-tabulate, length-gathered, get_or-gathered}
use Rattle.grouping_marks.proofs.MarksLaws.{length-numbers, length-places, length-sizes, length-firsts}
use Rattle.grouping_marks.proofs.CutLaws.{Opening, sizes-cut, firsts-cut, count-cut, places-cut}
use Rattle.grouping_marks.proofs.NumberLaws.{number_first}
use Rattle.lent.specs.passes.Bounds.{AllBelow}
use Rattle.grouping_marks.proofs.SplitLaws.{Split, below-numbers, below-gathered, split_numbers, split_length, split_at, split_before, split_gathered}
use Rattle.grouping_marks.proofs.SplitLaws.{split_looked, split_continues}
use Rattle.grouping_hits.specs.RepeatingHitPatterns.{second_at, second_lengths, intervals}
use Rattle.grouping_hits.proofs.LengthLaws.{length-hit_marks, length-second_lengths}
use Rattle.grouping_hits.proofs.HitCutLaws.{second_lengths-cut}
use Rattle.grouping_hits.proofs.IntervalCutLaws.{intervals-back}
use Rattle.grouping_colour.specs.MonoStreak.{streak_marks, streak_of}
use Rattle.grouping_preprocessor.specs.Preprocessor.{patterns_open, first_lengths, streak_counts, pattern_types, coupled_patterns}
use Rattle.grouping_preprocessor.specs.Preprocessor.{hits_open, hit_count, hit_sizes, hit_firsts}
use Rattle.grouping_preprocessor.specs.Preprocessor.{hit_seconds, streak_place_of, alternating_of, pattern_place_of, hit_of, interval_of}
use Rattle.grouping_colour.proofs.LengthLaws.{length-streak_marks, length-coupled}
use Rattle.grouping_preprocessor.proofs.BoundLaws.{length-patterns_open, length-hits_open}
use Rattle.grouping_preprocessor.proofs.BoundLaws.{streak_place_of_looked, alternating_of_looked, pattern_place_of_looked, hit_of_looked}
use Rattle.grouping_preprocessor.proofs.BoundLaws.{interval_of_looked}
use Rattle.grouping_colour.proofs.StreakListLaws.{streak_of_made}
use Rattle.grouping_preprocessor.proofs.MadeLaws.{coupled_patterns_made, hits_open_made, hit_count_made, hit_sizes_made, hit_firsts_made, hit_seconds_made}
use Rattle.grouping_preprocessor.proofs.MadeLaws.{hit_intervals_made}
use Rattle.agreement.specs.passes.Agreement.{FirstAlike, HitsCut, Agree}

-- what stands behind the cut: the marks of each level, and the patterns' first lengths
pub record Back : Type 0 where
  pub streaks : List ℕ
  pub patterns : List ℕ
  pub hits : List ℕ
  pub lengths : List ℕ

-- a chart's lists, each a part before the cut and the given back
pub record Parted (kinds : List ℕ) (k : Back) : Type 0 where
  pub streaks : List ℕ
  pub patterns : List ℕ
  pub hits : List ℕ
  pub lengths : List ℕ
  pub streaks-whole : streak_marks kinds ≡ streaks ++ k.streaks
  pub patterns-whole : patterns_open kinds ≡ patterns ++ k.patterns
  pub hits-whole : hits_open kinds ≡ hits ++ k.hits
  pub lengths-whole : first_lengths kinds ≡ lengths ++ k.lengths
  pub streaks_open : Opening k.streaks
  pub patterns_open_lem : Opening k.patterns
  pub hits_open_lem : Opening k.hits
  pub streaks-count : group_count streaks ≡ length patterns
  pub patterns-count : group_count patterns ≡ length hits
  pub lengths-count : length lengths ≡ length hits
  pub some : 0 < length streaks

-- behind the cut, counted from there: each object's pattern and hit pattern
unfoldable pub back_pattern : Back → List ℕ
back_pattern k = gathered (group_numbers k.patterns) (group_numbers k.streaks)

unfoldable pub back_hit : Back → List ℕ
back_hit k = gathered (group_numbers k.hits) (back_pattern k)

-- and each hit pattern's size and first two lengths
abbrev hit_sizes_behind : Back → List ℕ
hit_sizes_behind k = group_sizes k.hits

abbrev hit_firsts_behind : Back → List ℕ
hit_firsts_behind k = group_firsts k.hits k.lengths

abbrev hit_seconds_behind : Back → List ℕ
hit_seconds_behind k = group_firsts k.hits (second_lengths k.lengths k.hits)

-- ---- lists that are cut

-- a level with an item for each group of the level below it, before the cut and in all, has one for each behind the cut too
back_level : {whole below : List ℕ} (front back front' back' : List ℕ) → length whole ≡ group_count below → whole ≡ front ++ back
    → below ≡ front' ++ back' → Opening back' → group_count front' ≡ length front → length back ≡ group_count back'
back_level front back front' back' long e f o h = omega (arith, long, ap length e, length-append front back, ap group_count f, count-cut front' back' o, h)

-- a number behind the cut
pub split_from : {xs : List ℕ} {at c : ℕ} {back : List ℕ} → Split xs at c back → (i : ℕ) → at ≤ i → i < length xs → c ≤ get_or xs i 0
split_from {xs} {at} {c} s i l h =
    let o : at + (i - at) ≡ i = omega arith in
    subst (λ (n : ℕ). c ≤ get_or xs n 0) o (omega (arith, split_at s (i - at) (omega (arith, split_length s))))

-- a place behind the cut, in a level whose marks are cut there
place-behind : {places marks idx numbers : List ℕ} {at : ℕ} (front back : List ℕ) → gathered (group_places marks) idx ≡ places → marks ≡ front ++ back
    → Opening back → Split idx at (length front) numbers → (j : ℕ) → j < length numbers
    → get_or places (at + j) 0 ≡ get_or (group_places back) (get_or numbers j 0) 0
place-behind {idx = idx} {at = at} front back looked whole o s j h =
    rw (← looked, whole, places-cut front back o) (split_looked s (group_places front) (group_places back) (length-places front) j h)

-- two lists that are cut so, with the same numbers behind
first_behind : {xs ys back : List ℕ} {a b c d : ℕ} → Split xs a c back → Split ys b d back → 0 < a → 0 < b → (j : ℕ) → j < length back → FirstAlike xs ys a b j
first_behind s t some some' j h = split_continues s some j h ∙ sym (split_continues t some' j h)

-- what is left of a list behind the cut
left_behind : {xs : List ℕ} {n : ℕ} (front back : List ℕ) → xs ≡ front ++ back → length front ≡ n → drop n xs ≡ back
left_behind {n = n} front back e h = ap (drop n) e ∙ drop_at front back n h

module _ {kinds : List ℕ} {k : Back} (x : Parted kinds k) where
  -- the levels behind the cut fit each other as those of the whole chart do
  back-patterns : length k.patterns ≡ group_count k.streaks
  back-patterns =
      back_level x.patterns k.patterns x.streaks k.streaks (length-patterns_open kinds) x.patterns-whole x.streaks-whole x.streaks_open
      x.streaks-count

  back-hits : length k.hits ≡ group_count k.patterns
  back-hits =
      back_level x.hits k.hits x.patterns k.patterns (length-hits_open kinds) x.hits-whole x.patterns-whole x.patterns_open_lem
      x.patterns-count

  -- ---- the numbers

  streaks_split : Split (streak_of kinds) (length x.streaks) (length x.patterns) (group_numbers k.streaks)
  streaks_split = rw (streak_of_made kinds, x.streaks-whole, ← x.streaks-count) (split_numbers x.streaks k.streaks x.streaks_open)

  patterns_table : Split (group_numbers (patterns_open kinds)) (length x.patterns) (length x.hits) (group_numbers k.patterns)
  patterns_table = rw (x.patterns-whole, ← x.patterns-count) (split_numbers x.patterns k.patterns x.patterns_open_lem)

  streaks-inside : AllBelow (group_numbers k.streaks) (length (group_numbers k.patterns))
  streaks-inside i h = omega (arith, below-numbers k.streaks i h, back-patterns, length-numbers k.patterns)

  pub patterns_split : Split (alternating_of kinds) (length x.streaks) (length x.hits) (back_pattern k)
  unfolding back_pattern
  patterns_split = rw (← alternating_of_looked kinds) (split_gathered streaks_split patterns_table streaks-inside)

  patterns-inside : AllBelow (back_pattern k) (length (group_numbers k.hits))
  unfolding back_pattern
  patterns-inside i h =
      omega (
        arith,
        below-gathered (group_numbers k.patterns) (group_numbers k.streaks) (group_count k.patterns) (below-numbers k.patterns) streaks-inside i h,
        back-hits,
        length-numbers k.hits,
      )

  hits_split : Split (hit_of kinds) (length x.streaks) (group_count x.hits) (back_hit k)
  unfolding back_hit
  hits_split =
      rw (← hit_of_looked kinds) (split_gathered patterns_split (rw x.hits-whole (split_numbers x.hits k.hits x.hits_open_lem)) patterns-inside)

  hits-inside : AllBelow (back_hit k) (group_count k.hits)
  unfolding back_hit
  hits-inside = below-gathered (group_numbers k.hits) (back_pattern k) (group_count k.hits) (below-numbers k.hits) patterns-inside

  pub objects-back : length kinds ≡ length x.streaks + length k.streaks
  objects-back = omega (arith, length-streak_marks kinds, ap length x.streaks-whole, length-append x.streaks k.streaks)

  hit_long : length (back_hit k) ≡ length k.streaks
  unfolding back_hit back_pattern
  hit_long =
      length-gathered (group_numbers k.hits) (gathered (group_numbers k.patterns) (group_numbers k.streaks))
      ∙ length-gathered (group_numbers k.patterns) (group_numbers k.streaks) ∙ length-numbers k.streaks

  pattern_long : length (back_pattern k) ≡ length k.streaks
  unfolding back_pattern
  pattern_long = length-gathered (group_numbers k.patterns) (group_numbers k.streaks) ∙ length-numbers k.streaks

  -- ---- the places

  module _ (j : ℕ) (h : j < length k.streaks) where
    streak-place-back : get_or (streak_place_of kinds) (length x.streaks + j) 0 ≡ get_or (group_places k.patterns) (get_or (group_numbers k.streaks) j 0) 0
    streak-place-back =
        place-behind x.patterns k.patterns (streak_place_of_looked kinds) x.patterns-whole x.patterns_open_lem streaks_split j
        (omega (arith, length-numbers k.streaks))

    pattern-place-back : get_or (pattern_place_of kinds) (length x.streaks + j) 0 ≡ get_or (group_places k.hits) (get_or (back_pattern k) j 0) 0
    pattern-place-back =
        place-behind x.hits k.hits (pattern_place_of_looked kinds) x.hits-whole x.hits_open_lem patterns_split j (omega (arith, pattern_long))

  -- ---- the hit patterns

  long_lengths : length k.hits ≡ length k.lengths
  long_lengths =
      omega (
        arith,
        ap length x.hits-whole,
        ap length (hits_open_made kinds),
        length-append x.hits k.hits,
        ap length x.lengths-whole,
        length-append x.lengths k.lengths,
        x.lengths-count,
        length-hit_marks (coupled_patterns kinds),
        ap length (coupled_patterns_made kinds),
        length-coupled (first_lengths kinds) (streak_counts kinds) (pattern_types kinds),
      )

  sizes-back : hit_sizes kinds ≡ group_sizes x.hits ++ hit_sizes_behind k
  sizes-back = hit_sizes_made kinds ∙ ap group_sizes x.hits-whole ∙ sizes-cut x.hits k.hits x.hits_open_lem

  firsts-back : hit_firsts kinds ≡ group_firsts x.hits x.lengths ++ hit_firsts_behind k
  firsts-back =
      hit_firsts_made kinds
      ∙ (λ i. group_firsts (x.hits-whole i) (x.lengths-whole i))
      ∙ firsts-cut x.hits k.hits x.lengths k.lengths x.hits_open_lem (sym x.lengths-count) long_lengths

  -- the second lengths of the patterns before the cut
  seconds_before : List ℕ
  seconds_before = tabulate (second_at (x.lengths ++ k.lengths) (x.hits ++ k.hits)) (length x.lengths)

  seconds-back : hit_seconds kinds ≡ group_firsts x.hits seconds_before ++ hit_seconds_behind k
  unfolding seconds_before
  seconds-back =
      hit_seconds_made kinds
      ∙ (λ i. group_firsts (x.hits-whole i) (second_lengths (x.lengths-whole i) (x.hits-whole i)))
      ∙ ap (group_firsts (x.hits ++ k.hits)) (second_lengths-cut x.lengths k.lengths x.hits k.hits (sym x.lengths-count))
      ∙ firsts-cut x.hits k.hits seconds_before (second_lengths k.lengths k.hits) x.hits_open_lem (sym (length-tabulate _ _ ∙ x.lengths-count))
      (long_lengths ∙ sym (length-second_lengths k.lengths k.hits))

  sizes_long : length (group_sizes x.hits) ≡ group_count x.hits
  sizes_long = length-sizes x.hits

  firsts_long : length (group_firsts x.hits x.lengths) ≡ group_count x.hits
  firsts_long = length-firsts x.hits x.lengths (omega (arith, x.lengths-count))

  seconds_long : length (group_firsts x.hits seconds_before) ≡ group_count x.hits
  unfolding seconds_before
  seconds_long =
      length-firsts x.hits seconds_before
      (omega (arith, x.lengths-count, length-tabulate (second_at (x.lengths ++ k.lengths) (x.hits ++ k.hits)) (length x.lengths)))

  sizes-behind : drop (group_count x.hits) (hit_sizes kinds) ≡ hit_sizes_behind k
  sizes-behind = left_behind (group_sizes x.hits) (hit_sizes_behind k) sizes-back sizes_long

  firsts-behind : drop (group_count x.hits) (hit_firsts kinds) ≡ hit_firsts_behind k
  firsts-behind = left_behind (group_firsts x.hits x.lengths) (hit_firsts_behind k) firsts-back firsts_long

  seconds-behind : drop (group_count x.hits) (hit_seconds kinds) ≡ hit_seconds_behind k
  seconds-behind = left_behind (group_firsts x.hits seconds_before) (hit_seconds_behind k) seconds-back seconds_long

  -- ---- the intervals, from the M-th hit pattern behind the cut on

  -- by the chart's own lists
  interval_there : (limit j : ℕ) → j < length (back_hit k) → get_or (interval_of limit kinds) (length x.streaks + j) 0
      ≡ get_or (intervals limit (hit_sizes kinds) (hit_firsts kinds) (hit_seconds kinds)) (group_count x.hits + get_or (back_hit k) j 0) 0
  interval_there limit j h =
      let o : ℕ = length x.streaks + j in
      rw (← interval_of_looked kinds limit, hit_intervals_made kinds limit)
      (get_or-gathered (intervals limit (hit_sizes kinds) (hit_firsts kinds) (hit_seconds kinds)) (hit_of kinds) o (omega (arith, split_length hits_split))
      ∙ ap (λ (n : ℕ). get_or (intervals limit (hit_sizes kinds) (hit_firsts kinds) (hit_seconds kinds)) n 0) (split_at hits_split j h))

  interval-back : (limit j : ℕ) → j < length k.streaks → limit ≤ get_or (back_hit k) j 0 + 1
      → get_or (interval_of limit kinds) (length x.streaks + j) 0
      ≡ get_or (intervals limit (hit_sizes_behind k) (hit_firsts_behind k) (hit_seconds_behind k)) (get_or (back_hit k) j 0) 0
  interval-back limit j h l =
      let i : ℕ = get_or (back_hit k) j 0 in
      let b : j < length (back_hit k) = omega (arith, hit_long) in
      let c : i < length (hit_sizes_behind k) = omega (arith, hits-inside j b, length-sizes k.hits) in
      interval_there limit j b
      ∙ (λ n. get_or (intervals limit (sizes-back n) (firsts-back n) (seconds-back n)) (sym sizes_long n + i) 0)
      ∙ intervals-back (group_sizes x.hits) (hit_sizes_behind k) (group_firsts x.hits x.lengths) (hit_firsts_behind k)
      (group_firsts x.hits seconds_before) (hit_seconds_behind k) (firsts_long ∙ sym sizes_long) (seconds_long ∙ sym sizes_long) limit i l c

  -- ---- the cut itself

  hit-start : 0 < length (back_hit k) → get_or (back_hit k) 0 0 ≡ 0
  unfolding back_hit back_pattern
  hit-start h =
      get_or-gathered (group_numbers k.hits) (back_pattern k) 0 (omega (arith, hit_long, pattern_long))
      ∙ ap (λ (i : ℕ). get_or (group_numbers k.hits) i 0)
      (get_or-gathered (group_numbers k.patterns) (group_numbers k.streaks) 0 (omega (arith, hit_long, length-numbers k.streaks))
      ∙ ap (λ (i : ℕ). get_or (group_numbers k.patterns) i 0) (number_first k.streaks) ∙ number_first k.patterns)
      ∙ number_first k.hits

  hits-cut : HitsCut kinds (length x.streaks) (group_count x.hits)
  hits-cut = record {
    some = x.some;
    earlier = split_before hits_split;
    later = λ i a h. split_from hits_split i a (omega (arith, split_length hits_split, hit_long, objects-back));
    opens = λ h.
        let b : 0 < length (back_hit k) = omega (arith, hit_long, objects-back) in
        let e : length x.streaks + 0 ≡ length x.streaks = omega arith in
        let v : get_or (hit_of kinds) (length x.streaks) 0 ≡ group_count x.hits + get_or (back_hit k) 0 0 = rw e at (split_at hits_split 0 b) in
        omega (arith, v, hit-start b);
  }

  hit-count : hit_count kinds ≡ group_count x.hits + group_count k.hits
  hit-count = hit_count_made kinds ∙ ap group_count x.hits-whole ∙ count-cut x.hits k.hits x.hits_open_lem

-- two charts that are cut so, with the same back
pub parted-agree : (limit : ℕ) {kinds kinds' : List ℕ} {k : Back} (x : Parted kinds k) (y : Parted kinds' k)
    → Agree limit kinds (length x.streaks) (group_count x.hits) kinds' (length y.streaks) (group_count y.hits)
parted-agree limit {kinds} {kinds'} {k} x y = record {
  objects = omega (arith, objects-back x, objects-back y);
  cut = hits-cut x;
  cut' = hits-cut y;
  count = omega (arith, hit-count x, hit-count y);
  sizes = sizes-behind x ∙ sym (sizes-behind y);
  firsts = firsts-behind x ∙ sym (firsts-behind y);
  seconds = seconds-behind x ∙ sym (seconds-behind y);
  hit = λ j h. omega (arith, split_at (hits_split x) j (in_hits j h), split_at (hits_split y) j (in_hits j h));
  hit_first = λ j h. first_behind (hits_split x) (hits_split y) x.some y.some j (in_hits j h);
  pattern_first = λ j h. first_behind (patterns_split x) (patterns_split y) x.some y.some j (in_patterns j h);
  streak_first = λ j h. first_behind (streaks_split x) (streaks_split y) x.some y.some j (in_streaks j h);
  pattern-place = λ j h. pattern-place-back x j (in_back j h) ∙ sym (pattern-place-back y j (in_back j h));
  streak-place = λ j h. streak-place-back x j (in_back j h) ∙ sym (streak-place-back y j (in_back j h));
  interval = λ j h l.
      let q : limit ≤ get_or (back_hit k) j 0 + 1 = omega (arith, split_at (hits_split x) j (in_hits j h)) in
      interval-back x limit j (in_back j h) q ∙ sym (interval-back y limit j (in_back j h) q);
}
  where
    in_back : (j : ℕ) → length x.streaks + j < length kinds → j < length k.streaks
    in_back j h = omega (arith, objects-back x)

    in_hits : (j : ℕ) → length x.streaks + j < length kinds → j < length (back_hit k)
    in_hits j h = omega (arith, in_back j h, hit_long x)

    in_patterns : (j : ℕ) → length x.streaks + j < length kinds → j < length (back_pattern k)
    in_patterns j h = omega (arith, in_back j h, pattern_long x)

    in_streaks : (j : ℕ) → length x.streaks + j < length kinds → j < length (group_numbers k.streaks)
    in_streaks j h = omega (arith, in_back j h, length-numbers k.streaks)
