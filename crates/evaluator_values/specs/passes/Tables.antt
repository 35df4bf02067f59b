-- What the evaluator asks of the encoder's tables, and what it reads there.
use Rattle.std.specs.Prelude.{◌≡◌, ℕ, ◌-◌, ◌<◌, List, eqb, length, get_or, Float}
use Rattle.std.specs.Float.{nan, binary64}
use Rattle.std.specs.Float.Ieee.{mul}
use Rattle.grouping_preprocessor.specs.passes.Steps.{Tabled}
use Rattle.grouping_preprocessor.specs.passes.LookUps.{streaks, streak_places, patterns, pattern_places}
use Rattle.grouping_preprocessor.specs.passes.LookUps.{hits, intervals, Linked}
use Rattle.grouping_preprocessor.specs.declared.Levels.{Levels}
use Rattle.grouping_preprocessor.specs.declared.tables.Tables.{Tables}
use Rattle.evaluator_colour.specs.declared.Standing.{Standing}
use Rattle.evaluator_colour.specs.Formulas.{object_sum}
use Rattle.evaluator_colour.specs.RatioPenalty.{ratio_penalty}
use Rattle.evaluator_values.specs.Colour.{is_first}
use Rattle.evaluator_values.specs.declared.Numbers.{Numbers}

-- an object of the tables
pub record ObjectIn (t : Tables) (i : ℕ) : Type 0 where
  pub linked : Linked t
  pub within : i < length (streaks t)

-- the object's group number on each level
pub record NumbersAt (t : Tables) (i : ℕ) (r : Numbers) : Type 0 where
  pub streaks : r.streak ≡ get_or (streaks t) i 0
  pub patterns : r.pattern ≡ get_or (patterns t) i 0
  pub hits : r.hit ≡ get_or (hits t) i 0

-- how an object stands in its groups, as it is looked up
unfoldable pub looked_up : Tables → ℕ → Standing
looked_up t i = record {
  interval = get_or (intervals t) i 0;
  pattern_place = get_or (pattern_places t) i 0;
  streak_place = get_or (streak_places t) i 0;
  streak = eqb (get_or t.first.now (get_or (streaks t) i 0) 0) i;
  pattern = is_first (patterns t) i;
  hit = is_first (hits t) i;
}

-- its sum times its ratio penalty
unfoldable pub looked_colour : Float → List Float → Tables → ℕ → Float
looked_colour tolerance ratios t i =
    mul binary64 (object_sum (looked_up t i))
    (ratio_penalty tolerance i (get_or ratios i nan) (get_or ratios (i - 2) nan))

-- what the values are made of: the encoder's tables, and a ratio for each object
pub record Sources (kinds : List ℕ) (ratios : List Float) (w : List ℕ) (k : Levels) : Type 0 where
  pub tabled : Tabled kinds w k
  pub ratio : length ratios ≡ length kinds
