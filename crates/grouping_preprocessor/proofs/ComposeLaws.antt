-- What each pass left, put together: what is lent of a region is written over it, and put together again the eight regions are as the encoder leaves them.
use mathlib.Core.Path.{◌≡◌, sym, ap, ◌∙◌}
use mathlib.Core.List.{List, ◌++◌}
use Prim.Native.Nat.{ℕ, ◌≤◌}
use native.Mathlib.Omega.{arith}
use lib.ListN.{length, take, drop, length-append, length-take, length-drop}
use lib.Seq.{length-take-le}
use Rattle.lent.specs.Over.{over}
use Rattle.lent.proofs.OverLaws.{front, length-over, drop-over, over-agree}
use Rattle.lent.proofs.PieceLaws.{over_pieces, over-back}
use Rattle.grouping_marks.specs.Marks.{group_count, group_numbers, group_places, group_sizes, group_firsts}
use Rattle.grouping_marks.proofs.MarksLaws.{count_le, length-numbers, length-places}
use Rattle.grouping_colour.specs.MonoStreak.{streak_marks, streak_of, streak_lengths, streak_types, streak_firsts, streak_lasts}
use Rattle.grouping_colour.specs.AlternatingMonoPattern.{pattern_marks}
use Rattle.grouping_colour.proofs.LengthLaws.{length-streak_marks}
use Rattle.grouping_colour.proofs.StreakListLaws.{length-streak_lengths}
use Rattle.grouping_colour.proofs.EndLaws.{length-streak_firsts, length-streak_lasts}
use Rattle.grouping_preprocessor.specs.Preprocessor.{patterns_open, first_lengths, streak_counts, pattern_types, coupled_patterns, hits_open}
use Rattle.grouping_preprocessor.specs.Preprocessor.{hit_count, hit_sizes, hit_firsts, hit_seconds, hit_intervals}
use Rattle.grouping_preprocessor.specs.passes.Steps.{Encodes, hits_by, intervals_found}
use Rattle.grouping_preprocessor.proofs.BoundLaws.{length-patterns_open, length-hits_open, length-hit_intervals}
use Rattle.grouping_preprocessor.proofs.RegionLaws.{length-types, length-first_lengths, length-streak_counts, length-pattern_types}
use Rattle.grouping_preprocessor.proofs.RegionLaws.{length-hit_sizes, before, Laid, all_levels}

-- a region's first s places, where its first p were lent and put back
pub length-lent : (s p : ℕ) (old lent : List ℕ) → s ≤ length old → p ≤ length old → length lent ≡ length (take p old) → length (take s (lent ++ drop p old)) ≡ s
length-lent s p old lent h k e =
    length-take-le s (lent ++ drop p old) (omega (arith, length-append lent (drop p old), length-take-le p old k, length-drop p old))

pub back-long : (p : ℕ) (old lent : List ℕ) → length lent ≡ length (take p old) → length (lent ++ drop p old) ≡ length old
back-long p old lent e = omega (arith, length-append lent (drop p old), length-take p old, length-drop p old)

-- ---- what the passes promise, over the regions as they were lent and as they left them

pub record Streaks (kinds marks streak types₀ types lengths₀ lengths : List ℕ) (s : ℕ) : Type 0 where
  pub count : s ≡ group_count (streak_marks kinds)
  pub few : s ≤ length kinds
  pub marks_are : marks ≡ streak_marks kinds
  pub streak_is : streak ≡ streak_of kinds
  pub types_are : types ≡ over (streak_types kinds) types₀
  pub lengths_are : lengths ≡ over (streak_lengths kinds) lengths₀

pub record Patterns (lengths₀ lengths types₀ types marks numbers places counts₀ counts : List ℕ) (p : ℕ) : Type 0 where
  pub count : p ≡ group_count (pattern_marks lengths₀)
  pub few : p ≤ length lengths₀
  pub lengths_are : lengths ≡ over (group_firsts (pattern_marks lengths₀) lengths₀) lengths₀
  pub types_are : types ≡ over (group_firsts (pattern_marks lengths₀) types₀) types₀
  pub marks_are : marks ≡ pattern_marks lengths₀
  pub numbers_are : numbers ≡ group_numbers (pattern_marks lengths₀)
  pub places_are : places ≡ group_places (pattern_marks lengths₀)
  pub counts_are : counts ≡ over (group_sizes (pattern_marks lengths₀)) counts₀

pub record Hits (limit : ℕ) (lengths₀ lengths counts₀ counts types₀ types marks found₀ found : List ℕ) (h : ℕ) : Type 0 where
  pub count : h ≡ group_count (hits_by lengths₀ counts₀ types₀)
  pub few : h ≤ length lengths₀
  pub lengths_are : lengths ≡ group_numbers (hits_by lengths₀ counts₀ types₀)
  pub counts_are : counts ≡ over (group_sizes (hits_by lengths₀ counts₀ types₀)) counts₀
  pub types_are : types ≡ group_places (hits_by lengths₀ counts₀ types₀)
  pub marks_are : marks ≡ hits_by lengths₀ counts₀ types₀
  pub found_is : found ≡ over (intervals_found limit lengths₀ (hits_by lengths₀ counts₀ types₀)) found₀

pub record Ends (kinds lasts₀ lasts firsts₀ firsts : List ℕ) : Type 0 where
  pub lasts_are : lasts ≡ over (streak_lasts kinds) lasts₀
  pub firsts_are : firsts ≡ over (streak_firsts kinds) firsts₀

-- ---- the regions after all passes, where the patterns' passes were lent the first s places of each region, the hit patterns' the first p, and those of the
-- streaks' ends the first s again

module _ (kinds : List ℕ) (s p : ℕ) {marks streak types₀ types lengths₀ lengths : List ℕ} (S : Streaks kinds marks streak types₀ types lengths₀ lengths s)
    (rl : length lengths₀ ≡ length kinds) (rt : length types₀ ≡ length kinds) where
  pub lengths-lent : take s lengths ≡ streak_lengths kinds
  lengths-lent = rw S.lengths_are (front (streak_lengths kinds) lengths₀ s (length-streak_lengths kinds ∙ sym S.count))

  pub types-lent : take s types ≡ streak_types kinds
  types-lent = rw S.types_are (front (streak_types kinds) types₀ s (length-types kinds ∙ sym S.count))

  s_few : s ≤ length lengths₀
  s_few = omega (arith, S.few)

  s_lengths : s ≤ length lengths
  s_lengths =
      let fits : length (streak_lengths kinds) ≤ length lengths₀ = omega (arith, length-streak_lengths kinds, S.count, s_few) in
      omega (arith, ap length S.lengths_are, length-over (streak_lengths kinds) lengths₀ fits, s_few)

  s_types : s ≤ length types
  s_types = omega (arith, ap length S.types_are, length-over (streak_types kinds) types₀ (omega (arith, length-types kinds, S.count, S.few)), S.few)

  s_marks : s ≤ length marks
  s_marks = omega (arith, ap length S.marks_are, length-streak_marks kinds, S.few)

  module _ {lengths₁ types₁ marks₁ numbers places : List ℕ} (counts₀ : List ℕ) {counts : List ℕ}
      (P : Patterns (take s lengths) lengths₁ (take s types) types₁ marks₁ numbers places (take s counts₀) counts p) (rc : length counts₀ ≡ length kinds) where
    opening : pattern_marks (take s lengths) ≡ patterns_open kinds
    unfolding patterns_open
    opening = ap pattern_marks lengths-lent

    p-is : p ≡ group_count (patterns_open kinds)
    p-is = P.count ∙ ap group_count opening

    s_opening : length (patterns_open kinds) ≡ s
    s_opening = length-patterns_open kinds ∙ sym S.count

    p_few : p ≤ s
    p_few = omega (arith, p-is, count_le (patterns_open kinds), s_opening)

    -- regions 1, 2 and 5: what is listed of each pattern is over what was listed of each streak
    lengths₂ : lengths₁ ++ drop s lengths ≡ over (first_lengths kinds) lengths
    unfolding first_lengths
    lengths₂ =
        over-back s (group_firsts (patterns_open kinds) (streak_lengths kinds)) lengths lengths₁
        (omega (arith, length-first_lengths kinds, p-is, p_few)) s_lengths
        (P.lengths_are ∙ (λ i. over (group_firsts (opening i) (lengths-lent i)) (take s lengths)))

    types₂ : types₁ ++ drop s types ≡ over (pattern_types kinds) types
    unfolding pattern_types
    types₂ =
        over-back s (group_firsts (patterns_open kinds) (streak_types kinds)) types types₁
        (omega (arith, length-pattern_types kinds, p-is, p_few)) s_types
        (P.types_are ∙ (λ i. over (group_firsts (opening i) (types-lent i)) (take s types)))

    counts₂ : counts ++ drop s counts₀ ≡ over (streak_counts kinds) counts₀
    unfolding streak_counts
    counts₂ =
        over-back s (group_sizes (patterns_open kinds)) counts₀ counts
        (omega (arith, length-streak_counts kinds, p-is, p_few)) (omega (arith, S.few))
        (P.counts_are ∙ ap (λ (l : List ℕ). over (group_sizes l) (take s counts₀)) opening)

    -- regions 7, 3 and 4: something for each streak
    marks₂ : marks₁ ++ drop s marks ≡ over (patterns_open kinds) marks
    marks₂ = rw (P.marks_are, opening) (over_pieces (patterns_open kinds) marks s s_opening)

    numbers₂ : (old : List ℕ) → numbers ++ drop s old ≡ over (group_numbers (patterns_open kinds)) old
    numbers₂ old =
        rw (P.numbers_are, opening) (over_pieces (group_numbers (patterns_open kinds)) old s (length-numbers (patterns_open kinds) ∙ s_opening))

    places₂ : (old : List ℕ) → places ++ drop s old ≡ over (group_places (patterns_open kinds)) old
    places₂ old =
        rw (P.places_are, opening) (over_pieces (group_places (patterns_open kinds)) old s (length-places (patterns_open kinds) ∙ s_opening))

    -- what the hit patterns' passes are lent
    firsts-lent : take p (lengths₁ ++ drop s lengths) ≡ first_lengths kinds
    firsts-lent = rw lengths₂ (front (first_lengths kinds) lengths p (length-first_lengths kinds ∙ sym p-is))

    kinds-lent : take p (types₁ ++ drop s types) ≡ pattern_types kinds
    kinds-lent = rw types₂ (front (pattern_types kinds) types p (length-pattern_types kinds ∙ sym p-is))

    counts-lent : take p (counts ++ drop s counts₀) ≡ streak_counts kinds
    counts-lent = rw counts₂ (front (streak_counts kinds) counts₀ p (length-streak_counts kinds ∙ sym p-is))

    p_marks : p ≤ length (marks₁ ++ drop s marks)
    p_marks = omega (arith, ap length marks₂, length-over (patterns_open kinds) marks (omega (arith, s_opening, s_marks)), s_marks, p_few)

    p_counts : p ≤ length (counts ++ drop s counts₀)
    p_counts =
        let fits : length (streak_counts kinds) ≤ length counts₀ = omega (arith, length-streak_counts kinds, p-is, p_few, S.few) in
        omega (arith, ap length counts₂, length-over (streak_counts kinds) counts₀ fits, p_few, S.few)

    module _ (limit : ℕ) {lengths₃ counts₃ types₃ hits found : List ℕ} {h : ℕ}
        (H : Hits limit (take p (lengths₁ ++ drop s lengths)) lengths₃ (take p (counts ++ drop s counts₀)) counts₃ (take p (types₁ ++ drop s types)) types₃ hits
        (take p (marks₁ ++ drop s marks)) found h) where
      hitting : hits_by (take p (lengths₁ ++ drop s lengths)) (take p (counts ++ drop s counts₀)) (take p (types₁ ++ drop s types)) ≡ hits_open kinds
      unfolding hits_open coupled_patterns
      hitting = λ i. hits_by (firsts-lent i) (counts-lent i) (kinds-lent i)

      h-is : h ≡ group_count (hits_open kinds)
      h-is = H.count ∙ ap group_count hitting

      p_hitting : length (hits_open kinds) ≡ p
      p_hitting = length-hits_open kinds ∙ sym p-is

      h_few : h ≤ p
      h_few = omega (arith, h-is, count_le (hits_open kinds), p_hitting)

      lengths₄ : lengths₃ ++ drop p (lengths₁ ++ drop s lengths) ≡ over (group_numbers (hits_open kinds)) (lengths₁ ++ drop s lengths)
      lengths₄ =
          rw (H.lengths_are, hitting)
          (over_pieces (group_numbers (hits_open kinds)) (lengths₁ ++ drop s lengths) p (length-numbers (hits_open kinds) ∙ p_hitting))

      types₄ : types₃ ++ drop p (types₁ ++ drop s types) ≡ over (group_places (hits_open kinds)) (types₁ ++ drop s types)
      types₄ =
          rw (H.types_are, hitting)
          (over_pieces (group_places (hits_open kinds)) (types₁ ++ drop s types) p (length-places (hits_open kinds) ∙ p_hitting))

      counts₄ : counts₃ ++ drop p (counts ++ drop s counts₀) ≡ over (hit_sizes kinds) (counts ++ drop s counts₀)
      unfolding hit_sizes
      counts₄ =
          over-back p (group_sizes (hits_open kinds)) (counts ++ drop s counts₀) counts₃ (omega (arith, length-hit_sizes kinds, h-is, h_few)) p_counts
          (H.counts_are ∙ ap (λ (l : List ℕ). over (group_sizes l) (take p (counts ++ drop s counts₀))) hitting)

      hits₄ : (old : List ℕ) → hits ++ drop p old ≡ over (hits_open kinds) old
      hits₄ old = rw (H.marks_are, hitting) (over_pieces (hits_open kinds) old p p_hitting)

      found₄ : found ++ drop p (marks₁ ++ drop s marks) ≡ over (hit_intervals limit kinds) (marks₁ ++ drop s marks)
      unfolding hit_intervals hit_sizes hit_firsts hit_seconds hit_count
      found₄ =
          over-back p (hit_intervals limit kinds) (marks₁ ++ drop s marks) found (omega (arith, length-hit_intervals kinds limit, h-is, h_few)) p_marks
          (H.found_is ∙ (λ i. over (intervals_found limit (firsts-lent i) (hitting i)) (take p (marks₁ ++ drop s marks))))

      -- the marks' and the sizes' regions are as long as they were
      hits-long : (old : List ℕ) → length old ≡ length kinds → length (hits ++ drop p old) ≡ length kinds
      hits-long old l =
          let fits : length (hits_open kinds) ≤ length old = omega (arith, p_hitting, p_few, S.few) in
          ap length (hits₄ old) ∙ length-over (hits_open kinds) old fits ∙ l

      counts-long : length (counts₃ ++ drop p (counts ++ drop s counts₀)) ≡ length kinds
      counts-long =
          let fits : length (streak_counts kinds) ≤ length counts₀ = omega (arith, length-streak_counts kinds, p-is, p_few, S.few) in
          let before = ap length counts₂ ∙ length-over (streak_counts kinds) counts₀ fits ∙ rc in
          let fits₂ : length (hit_sizes kinds) ≤ length (counts ++ drop s counts₀) = omega (arith, length-hit_sizes kinds, h-is, h_few, p_counts) in
          ap length counts₄ ∙ length-over (hit_sizes kinds) (counts ++ drop s counts₀) fits₂ ∙ before

      module _ (hits₀ : List ℕ) {lasts firsts : List ℕ}
          (E : Ends kinds (take s (hits ++ drop p hits₀)) lasts (take s (counts₃ ++ drop p (counts ++ drop s counts₀))) firsts) where
        lasts₅ : length hits₀ ≡ length kinds → lasts ++ drop s (hits ++ drop p hits₀) ≡ over (streak_lasts kinds) (hits ++ drop p hits₀)
        lasts₅ l =
            over-back s (streak_lasts kinds) (hits ++ drop p hits₀) lasts (omega (arith, length-streak_lasts kinds, S.count))
            (omega (arith, hits-long hits₀ l, S.few)) E.lasts_are

        firsts₅ : firsts ++ drop s (counts₃ ++ drop p (counts ++ drop s counts₀))
            ≡ over (streak_firsts kinds) (counts₃ ++ drop p (counts ++ drop s counts₀))
        firsts₅ =
            over-back s (streak_firsts kinds) (counts₃ ++ drop p (counts ++ drop s counts₀)) firsts (omega (arith, length-streak_firsts kinds, S.count))
            (omega (arith, counts-long, S.few)) E.firsts_are

        -- of what the sizes' region held before, only what is behind the streaks' first objects is left
        left : (old : List ℕ) → drop s counts₀ ≡ drop s old
            → over (streak_firsts kinds) (over (hit_sizes kinds) (over (streak_counts kinds) counts₀))
            ≡ over (streak_firsts kinds) (over (hit_sizes kinds) (over (streak_counts kinds) old))
        left old e =
            let sizes : length (hit_sizes kinds) ≤ s = omega (arith, length-hit_sizes kinds, h-is, h_few, p_few) in
            let counted : length (streak_counts kinds) ≤ s = omega (arith, length-streak_counts kinds, p-is, p_few) in
            let behind : (l : List ℕ) → drop s (over (hit_sizes kinds) (over (streak_counts kinds) l)) ≡ drop s l =
            λ l. drop-over (hit_sizes kinds) (over (streak_counts kinds) l) s sizes ∙ drop-over (streak_counts kinds) l s counted in
            over-agree (streak_firsts kinds) (over (hit_sizes kinds) (over (streak_counts kinds) counts₀))
            (over (hit_sizes kinds) (over (streak_counts kinds) old)) s (omega (arith, length-streak_firsts kinds, S.count))
            (behind counts₀ ∙ e ∙ sym (behind old))

        -- all eight regions, put together again; what was written over the front of the sizes' region before is nothing to them
        pub encoded : (streak₀ numbers₀ places₀ sizes₀ marks₀ rest w₀ : List ℕ) → drop s counts₀ ≡ drop s sizes₀
            → Laid limit kinds streak₀ lengths₀ types₀ numbers₀ places₀ sizes₀ hits₀ marks₀ rest (length kinds) w₀
            (before limit kinds streak₀ lengths₀ types₀ numbers₀ places₀ sizes₀ hits₀ marks₀ rest)
            → Encodes limit kinds w₀
            (streak
            ++ ((lengths₃ ++ drop p (lengths₁ ++ drop s lengths))
            ++ ((types₃ ++ drop p (types₁ ++ drop s types))
            ++ ((numbers ++ drop s numbers₀)
            ++ ((places ++ drop s places₀)
            ++ ((firsts ++ drop s (counts₃ ++ drop p (counts ++ drop s counts₀)))
            ++ ((lasts ++ drop s (hits ++ drop p hits₀)) ++ ((found ++ drop p (marks₁ ++ drop s marks)) ++ rest))))))))
            (record { streaks = s; patterns = p; hits = h; limit = limit })
        encoded streak₀ numbers₀ places₀ sizes₀ marks₀ rest w₀ behind k =
            let l = lengths₄ ∙ ap (over (group_numbers (hits_open kinds))) (lengths₂ ∙ ap (over (first_lengths kinds)) S.lengths_are) in
            let t = types₄ ∙ ap (over (group_places (hits_open kinds))) (types₂ ∙ ap (over (pattern_types kinds)) S.types_are) in
            let c = firsts₅ ∙ ap (over (streak_firsts kinds)) (counts₄ ∙ ap (over (hit_sizes kinds)) counts₂) ∙ left sizes₀ behind in
            let o = lasts₅ k.each.1.1.1.1.1.1.0 ∙ ap (over (streak_lasts kinds)) (hits₄ hits₀) in
            let m = found₄ ∙ ap (over (hit_intervals limit kinds)) (marks₂ ∙ ap (over (patterns_open kinds)) S.marks_are) in
            all_levels limit kinds streak₀ lengths₀ types₀ numbers₀ places₀ sizes₀ hits₀ marks₀ rest k
            (λ i. S.streak_is i ++ (l i ++ (t i ++ (numbers₂ numbers₀ i ++ (places₂ places₀ i ++ (c i ++ (o i ++ (m i ++ rest))))))))
            s p h S.count p-is h-is
