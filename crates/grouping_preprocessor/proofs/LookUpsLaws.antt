-- What the tables say of each object is the definitions' list, and no look-up leaves its table.
use mathlib.Core.Path.{◌≡◌, refl, sym, ap, ◌∙◌}
use mathlib.Core.List.{List}
use Prim.Native.Nat.{ℕ, ◌*◌, ◌<◌}
use native.Mathlib.Omega.{arith}
use lib.ListN.{length, take, get_or}
use Rattle.lent.specs.Scan.{gathered}
use Rattle.lent.specs.passes.Bounds.{AllBelow}
use Rattle.lent.proofs.PieceLaws.{part-take}
use Rattle.grouping_marks.proofs.MarksLaws.{length-numbers, length-places}
use Rattle.grouping_colour.proofs.StreakListLaws.{length-streak_of, streak-below}
use Rattle.grouping_colour.proofs.EndLaws.{length-streak_firsts}
use Rattle.grouping_preprocessor.specs.Preprocessor.{patterns_open, hits_open, streak_place_of, alternating_of, pattern_place_of, hit_of, interval_of}
use Rattle.grouping_preprocessor.specs.Preprocessor.{hit_intervals}
use Rattle.grouping_preprocessor.specs.passes.Steps as steps
use Rattle.grouping_preprocessor.specs.passes.LookUps.{Cut, streak_places, patterns, pattern_places, hits, intervals, Linked, TablesOf, StreaksCut, StreaksOf}
use Rattle.grouping_preprocessor.specs.declared.Levels.{Levels}
use Rattle.grouping_preprocessor.specs.declared.tables.Tables.{Tables}
use Rattle.grouping_preprocessor.specs.declared.tables.Streaks.{Streaks}
use Rattle.grouping_preprocessor.proofs.BoundLaws.{length-patterns_open, length-hits_open, length-hit_intervals, length-alternating_of, length-hit_of}
use Rattle.grouping_preprocessor.proofs.BoundLaws.{alternating_of-below, hit_of-below}
use Rattle.grouping_preprocessor.proofs.BoundLaws.{streak_place_of_looked, alternating_of_looked, pattern_place_of_looked, hit_of_looked, interval_of_looked}

-- ---- the tables that the encoder left, as they lie there
pub tabled : {limit : ℕ} {kinds w₀ w : List ℕ} {k : Levels} → steps.Regions (length kinds) w₀ → steps.Tables limit kinds w₀ w k → steps.Tabled kinds w k
tabled {kinds} {k = k} r e = record {
  regions = record { few = r.few; room = omega (arith, r.room, e.outside.same) };
  tables = record {
    count_s = e.count_s;
    count_p = e.count_p;
    count_h = e.count_h;
    searched = refl;
    few_s = e.few_s;
    few_p = e.few_p;
    few_h = e.few_h;
    streak = e.streak;
    pattern = e.pattern;
    streak-place = e.streak-place;
    hit = e.hit;
    pattern-place = e.pattern-place;
    interval = e.interval ∙ ap (λ l. hit_intervals l kinds) (sym e.searched);
    first = e.first;
    last = e.last;
    outside = record { same = refl; beyond = refl };
  };
}

-- ---- and cut

pub tables_of : {limit : ℕ} {kinds w₀ w : List ℕ} {k : Levels} {t : Tables} → steps.Tables limit kinds w₀ w k
    → Cut (length kinds) k w t → TablesOf limit kinds t
tables_of e c = record {
  streak = c.streak ∙ e.streak;
  pattern = c.pattern ∙ e.pattern;
  streak_place = c.streak_place ∙ e.streak-place;
  hit = c.hit ∙ e.hit;
  pattern_place = c.pattern_place ∙ e.pattern-place;
  interval = c.interval ∙ e.interval;
  first = c.first ∙ e.first;
}

-- and of these the streaks' alone, which are cut from what lies before the last region
pub streaks_of : {limit : ℕ} {kinds w₀ w : List ℕ} {k : Levels} {t : Streaks} → steps.Tables limit kinds w₀ w k
    → StreaksCut (length kinds) k (take (7 * length kinds) w) t → StreaksOf kinds t
streaks_of {kinds} {w = w} {k = k} e c =
    let n = length kinds in
    record {
      streak = c.streak ∙ part-take 0 n (7 * n) w (omega arith) ∙ e.streak;
      first = c.first ∙ part-take (5 * n) k.streaks (7 * n) w (omega (arith, e.few_s)) ∙ e.first;
      last = c.last ∙ part-take (6 * n) k.streaks (7 * n) w (omega (arith, e.few_s)) ∙ e.last;
    }

-- ---- object by object

-- numbers below k, one for each of n objects, lie within a table of k places
inside : {idx numbers : List ℕ} {n k : ℕ} (table : List ℕ) → idx ≡ numbers → length numbers ≡ n → length table ≡ k
    → ((i : ℕ) → i < n → get_or numbers i 0 < k) → AllBelow idx (length table)
inside table e l m b = λ i h. rw (e, m) (b i (omega (arith, ap length e, l)))

module _ {limit : ℕ} {kinds : List ℕ} {t : Tables} (e : TablesOf limit kinds t) where
  pub streak_places_are : streak_places t ≡ streak_place_of kinds
  streak_places_are = (λ i. gathered (e.streak_place i) (e.streak i)) ∙ streak_place_of_looked kinds

  pub patterns_are : patterns t ≡ alternating_of kinds
  patterns_are = (λ i. gathered (e.pattern i) (e.streak i)) ∙ alternating_of_looked kinds

  pub pattern_places_are : pattern_places t ≡ pattern_place_of kinds
  pattern_places_are = (λ i. gathered (e.pattern_place i) (patterns_are i)) ∙ pattern_place_of_looked kinds

  pub hits_are : hits t ≡ hit_of kinds
  hits_are = (λ i. gathered (e.hit i) (patterns_are i)) ∙ hit_of_looked kinds

  pub intervals_are : intervals t ≡ interval_of limit kinds
  intervals_are = (λ i. gathered (e.interval i) (hits_are i)) ∙ interval_of_looked kinds limit

  -- no look-up leaves its table
  pub linked : Linked t
  linked =
      let streaks = ap length e.streak_place ∙ length-places (patterns_open kinds) ∙ length-patterns_open kinds in
      let streaks' = ap length e.pattern ∙ length-numbers (patterns_open kinds) ∙ length-patterns_open kinds in
      let alternating = ap length e.pattern_place ∙ length-places (hits_open kinds) ∙ length-hits_open kinds in
      let alternating' = ap length e.hit ∙ length-numbers (hits_open kinds) ∙ length-hits_open kinds in
      let firsts = ap length e.first ∙ length-streak_firsts kinds in
      let found = ap length e.interval ∙ length-hit_intervals kinds limit in
      record {
        streak_place = inside _ e.streak (length-streak_of kinds) streaks (streak-below kinds);
        pattern = inside _ e.streak (length-streak_of kinds) streaks' (streak-below kinds);
        pattern_place = inside _ patterns_are (length-alternating_of kinds) alternating (alternating_of-below kinds);
        hit = inside _ patterns_are (length-alternating_of kinds) alternating' (alternating_of-below kinds);
        interval = inside _ hits_are (length-hit_of kinds) found (hit_of-below kinds);
        first = inside _ e.streak (length-streak_of kinds) firsts (streak-below kinds);
      }
