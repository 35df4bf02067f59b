-- What two charts have in common behind a landmark, counted from there: their hit patterns and, from the M-th on, M
-- being the search limit, their intervals; and with these all that a colour value hangs on.
use Rattle.std.specs.Prelude.{ℕ, ◌+◌, ◌-◌, ◌≤◌, ◌<◌, ◌≡◌, List, eqb, length, drop, get_or}
use Rattle.grouping_colour.specs.MonoStreak.{streak_of}
use Rattle.grouping_preprocessor.specs.Preprocessor.{alternating_of, hit_of, streak_place_of, pattern_place_of}
use Rattle.grouping_preprocessor.specs.Preprocessor.{interval_of}
use Rattle.grouping_preprocessor.specs.Preprocessor.{hit_count, hit_sizes, hit_firsts, hit_seconds}

-- objects a + j and b + j are of the group of the object before both or neither
abbrev pub FirstAlike : List ℕ → List ℕ → ℕ → ℕ → ℕ → Type 0
FirstAlike xs ys a b j =
    eqb (get_or xs (a + j) 0) (get_or xs (a + j - 1) 0) ≡ eqb (get_or ys (b + j) 0) (get_or ys (b + j - 1) 0)

-- a cut of a chart after `position` objects and `before` hit patterns: no hit pattern lies on both sides of it, and if
-- an object is left, a hit pattern opens there
pub record HitsCut (kinds : List ℕ) (position before : ℕ) : Type 0 where
  pub some : 0 < position
  pub earlier : (i : ℕ) → i < position → get_or (hit_of kinds) i 0 < before
  pub later : (i : ℕ) → position ≤ i → i < length kinds → before ≤ get_or (hit_of kinds) i 0
  pub opens : position < length kinds → get_or (hit_of kinds) position 0 ≡ before

-- two charts from a landmark on: a objects and g hit patterns stand before it in the first chart, b and h in the
-- second. Objects a + j and b + j are counterparts
pub record Agree (limit : ℕ) (kinds : List ℕ) (a g : ℕ) (kinds' : List ℕ) (b h : ℕ) : Type 0 where
  pub objects : length kinds + b ≡ length kinds' + a
  pub cut : HitsCut kinds a g
  pub cut' : HitsCut kinds' b h
  -- the hit patterns behind the landmark: how many, and of each what the search for an interval compares
  pub count : hit_count kinds + h ≡ hit_count kinds' + g
  pub sizes : drop g (hit_sizes kinds) ≡ drop h (hit_sizes kinds')
  pub firsts : drop g (hit_firsts kinds) ≡ drop h (hit_firsts kinds')
  pub seconds : drop g (hit_seconds kinds) ≡ drop h (hit_seconds kinds')
  -- counted from the landmark, counterparts are of the same hit pattern
  pub hit : (j : ℕ) → a + j < length kinds → get_or (hit_of kinds) (a + j) 0 + h ≡ get_or (hit_of kinds') (b + j) 0 + g
  pub hit_first : (j : ℕ) → a + j < length kinds → FirstAlike (hit_of kinds) (hit_of kinds') a b j
  pub pattern_first : (j : ℕ) → a + j < length kinds → FirstAlike (alternating_of kinds) (alternating_of kinds') a b j
  pub streak_first : (j : ℕ) → a + j < length kinds → FirstAlike (streak_of kinds) (streak_of kinds') a b j
  pub pattern-place : (j : ℕ) → a + j < length kinds
      → get_or (pattern_place_of kinds) (a + j) 0 ≡ get_or (pattern_place_of kinds') (b + j) 0
  pub streak-place : (j : ℕ) → a + j < length kinds
      → get_or (streak_place_of kinds) (a + j) 0 ≡ get_or (streak_place_of kinds') (b + j) 0
  -- from the M-th of these hit patterns on
  pub interval : (j : ℕ) → a + j < length kinds → g + limit ≤ get_or (hit_of kinds) (a + j) 0 + 1
      → get_or (interval_of limit kinds) (a + j) 0 ≡ get_or (interval_of limit kinds') (b + j) 0

-- the same, with the numbers of hit patterns before the landmark found
pub record Agreement (limit : ℕ) (kinds : List ℕ) (a : ℕ) (kinds' : List ℕ) (b : ℕ) : Type 0 where
  pub before : ℕ
  pub before' : ℕ
  pub agree : Agree limit kinds a before kinds' b before'
