-- What the passes of colour and stretch ask.
use Rattle.std.specs.Prelude.{◌≡◌, ℕ, ◌+◌, ◌≤◌, ◌<◌, List, length, get_or, Float}
use Rattle.grouping_chart.specs.Chart.{largest}
use Rattle.grouping_chart.specs.Settings.{Settings}
use Rattle.grouping_preprocessor.specs.passes.Steps.{Regions}
use Rattle.call_colour.specs.Call.{Memory}

-- a search limit from 2 to 64, a ratio for each object, and room for them in every slice that is written
pub record ChartRoom (s : Settings) (kinds : List ℕ) (ratios : List Float) (m : Memory) : Type 0 where
  pub least : 2 ≤ s.search_limit
  pub most : s.search_limit ≤ 64
  pub ratio : length ratios ≡ length kinds
  pub values : length kinds ≤ length m.value
  pub regions : Regions (length kinds) m.work
  pub floats : length kinds ≤ length m.scratch

-- each kind is one of the three
abbrev pub Kinds : List ℕ → Type 0
Kinds kinds = (i : ℕ) → i < length kinds → get_or kinds i 0 ≤ 2

-- known kinds, a value for each, and few of them
pub record AverageRoom (kinds : List ℕ) (values : List Float) : Type 0 where
  pub known : Kinds kinds
  pub same : length values ≡ length kinds
  pub few : length kinds ≤ largest

-- known kinds; kinds and values of a stretch, by its first object and how many it has, are there, and few
pub record StretchRoom (kinds : List ℕ) (values : List Float) (a n : ℕ) : Type 0 where
  pub known : Kinds kinds
  pub kinded : a + n ≤ length kinds
  pub valued : a + n ≤ length values
  pub few : n ≤ largest
