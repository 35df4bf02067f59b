-- The encoder's tables, cut from the work slice: what they say of each object, and where they are whole.
use Rattle.std.specs.Prelude.{◌≡◌, ℕ, ◌*◌, ◌≤◌, List, length}
use Rattle.lent.specs.Over.{part}
use Rattle.lent.specs.Scan.{gathered}
use Rattle.lent.specs.passes.Bounds.{AllBelow}
use Rattle.grouping_marks.specs.Marks.{group_numbers, group_places}
use Rattle.grouping_chart.specs.Chart.{largest}
use Rattle.grouping_colour.specs.MonoStreak.{streak_of, streak_firsts, streak_lasts}
use Rattle.grouping_preprocessor.specs.Preprocessor.{patterns_open, hits_open, hit_intervals}
use Rattle.grouping_preprocessor.specs.declared.Levels.{Levels}
use Rattle.grouping_preprocessor.specs.declared.tables.Tables.{Tables}
use Rattle.grouping_preprocessor.specs.declared.tables.Streaks.{Streaks}

-- how many places the tables of n objects need
pub record TablesRoom (n : ℕ) (k : Levels) (places : ℕ) : Type 0 where
  pub few : n ≤ largest
  pub streaks : k.streaks ≤ n
  pub patterns : k.patterns ≤ n
  pub hits : k.hits ≤ n
  pub regions : 8 * n ≤ places

-- where the encoder leaves each table
pub record Cut (n : ℕ) (k : Levels) (w : List ℕ) (t : Tables) : Type 0 where
  pub streak : t.streak.now ≡ part 0 n w
  pub pattern : t.pattern.now ≡ part (3 * n) k.streaks w
  pub streak_place : t.streak_place.now ≡ part (4 * n) k.streaks w
  pub hit : t.hit.now ≡ part n k.patterns w
  pub pattern_place : t.pattern_place.now ≡ part (2 * n) k.patterns w
  pub interval : t.interval.now ≡ part (7 * n) k.hits w
  pub first : t.first.now ≡ part (5 * n) k.streaks w

-- object by object, as they are looked up
abbrev pub streaks : Tables → List ℕ
streaks t = t.streak.now

abbrev pub streak_places : Tables → List ℕ
streak_places t = gathered t.streak_place.now (streaks t)

abbrev pub patterns : Tables → List ℕ
patterns t = gathered t.pattern.now (streaks t)

abbrev pub pattern_places : Tables → List ℕ
pattern_places t = gathered t.pattern_place.now (patterns t)

abbrev pub hits : Tables → List ℕ
hits t = gathered t.hit.now (patterns t)

abbrev pub intervals : Tables → List ℕ
intervals t = gathered t.interval.now (hits t)

-- each number that is looked up lies within its table
pub record Linked (t : Tables) : Type 0 where
  pub streak_place : AllBelow (streaks t) (length t.streak_place.now)
  pub pattern : AllBelow (streaks t) (length t.pattern.now)
  pub pattern_place : AllBelow (patterns t) (length t.pattern_place.now)
  pub hit : AllBelow (patterns t) (length t.hit.now)
  pub interval : AllBelow (hits t) (length t.interval.now)
  pub first : AllBelow (streaks t) (length t.first.now)

-- the tables are those of a chart's kinds
pub record TablesOf (limit : ℕ) (kinds : List ℕ) (t : Tables) : Type 0 where
  pub streak : t.streak.now ≡ streak_of kinds
  pub pattern : t.pattern.now ≡ group_numbers (patterns_open kinds)
  pub streak_place : t.streak_place.now ≡ group_places (patterns_open kinds)
  pub hit : t.hit.now ≡ group_numbers (hits_open kinds)
  pub pattern_place : t.pattern_place.now ≡ group_places (hits_open kinds)
  pub interval : t.interval.now ≡ hit_intervals limit kinds
  pub first : t.first.now ≡ streak_firsts kinds

-- ---- the streaks' tables alone, which lie before the last region

-- how many places they need
pub record StreaksRoom (n : ℕ) (k : Levels) (places : ℕ) : Type 0 where
  pub few : n ≤ largest
  pub streaks : k.streaks ≤ n
  pub regions : 7 * n ≤ places

-- where the encoder leaves them
pub record StreaksCut (n : ℕ) (k : Levels) (w : List ℕ) (t : Streaks) : Type 0 where
  pub streak : t.streak.now ≡ part 0 n w
  pub first : t.first.now ≡ part (5 * n) k.streaks w
  pub last : t.last.now ≡ part (6 * n) k.streaks w

-- they are those of a chart's kinds
pub record StreaksOf (kinds : List ℕ) (t : Streaks) : Type 0 where
  pub streak : t.streak.now ≡ streak_of kinds
  pub first : t.first.now ≡ streak_firsts kinds
  pub last : t.last.now ≡ streak_lasts kinds
