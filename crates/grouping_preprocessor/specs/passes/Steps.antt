-- What the encoder's passes ask, and what the encoder leaves: all that it writes, and the tables to look numbers up in.
-- Writes.antt has the regions.
use Rattle.std.specs.Prelude.{◌≡◌, ℕ, ◌*◌, ◌≤◌, List, [], ◌∷◌, length, drop}
use Rattle.lent.specs.Over.{part, written}
use Rattle.grouping_marks.specs.Marks.{group_count, group_numbers, group_places}
use Rattle.grouping_chart.specs.Chart.{largest}
use Rattle.grouping_hits.specs.RepeatingHitPatterns.{hit_marks, second_lengths}
use Rattle.grouping_colour.specs.MonoStreak.{streak_marks, streak_of, streak_firsts, streak_lasts}
use Rattle.grouping_colour.specs.AlternatingMonoPattern.{coupled}
use Rattle.grouping_preprocessor.specs.Preprocessor.{patterns_open, hits_open, hit_count, hit_intervals}
use Rattle.grouping_preprocessor.specs.passes.Writes.{encoder_writes, intervals_by}
use Rattle.grouping_preprocessor.specs.declared.Levels.{Levels}

-- room for n objects
pub record Regions (n : ℕ) (w : List ℕ) : Type 0 where
  pub few : n ≤ largest
  pub room : 8 * n ≤ length w

-- nothing past the regions has changed
pub record Outside (n : ℕ) (w₀ w : List ℕ) : Type 0 where
  pub same : length w ≡ length w₀
  pub beyond : drop (8 * n) w ≡ drop (8 * n) w₀

-- lists of n elements each
abbrev pub AsLong : ℕ → List (List ℕ) → Type 0
AsLong n [] = Unit {0}
AsLong n (x ∷ xs) = (length x ≡ n) × AsLong n xs

-- which patterns open a hit pattern, by the patterns' first-streak lengths, streak counts and types
abbrev pub hits_by : List ℕ → List ℕ → List ℕ → List ℕ
hits_by lengths counts types = hit_marks (coupled lengths counts types)

-- each hit pattern's interval, by the patterns' first-streak lengths and which of them open one
abbrev pub intervals_found : ℕ → List ℕ → List ℕ → List ℕ
intervals_found limit lengths marks = intervals_by limit lengths (second_lengths lengths marks) marks

-- the tables from which each object's six numbers are looked up, and each streak's first and last object
pub record Tables (limit : ℕ) (kinds w₀ w : List ℕ) (k : Levels) : Type 0 where
  pub count_s : k.streaks ≡ group_count (streak_marks kinds)
  pub count_p : k.patterns ≡ group_count (patterns_open kinds)
  pub count_h : k.hits ≡ hit_count kinds
  pub searched : k.limit ≡ limit
  pub few_s : k.streaks ≤ length kinds
  pub few_p : k.patterns ≤ length kinds
  pub few_h : k.hits ≤ length kinds
  pub streak : part 0 (length kinds) w ≡ streak_of kinds
  pub pattern : part (3 * length kinds) k.streaks w ≡ group_numbers (patterns_open kinds)
  pub streak-place : part (4 * length kinds) k.streaks w ≡ group_places (patterns_open kinds)
  pub hit : part (length kinds) k.patterns w ≡ group_numbers (hits_open kinds)
  pub pattern-place : part (2 * length kinds) k.patterns w ≡ group_places (hits_open kinds)
  pub interval : part (7 * length kinds) k.hits w ≡ hit_intervals limit kinds
  pub first : part (5 * length kinds) k.streaks w ≡ streak_firsts kinds
  pub last : part (6 * length kinds) k.streaks w ≡ streak_lasts kinds
  pub outside : Outside (length kinds) w₀ w

-- what the encoder leaves
pub record Encodes (limit : ℕ) (kinds w₀ w : List ℕ) (k : Levels) : Type 0 where
  pub memory : w ≡ written (encoder_writes limit kinds) w₀
  pub tables : Tables limit kinds w₀ w k

-- the encoder's tables lie in w
pub record Tabled (kinds w : List ℕ) (k : Levels) : Type 0 where
  pub regions : Regions (length kinds) w
  pub tables : Tables k.limit kinds w w k
