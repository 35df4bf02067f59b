-- What the passes of encode ask: room for every answer, and tables in which each number can be looked up.
use Rattle.std.specs.Prelude.{ℕ, ◌*◌, ◌≤◌, ◌<◌, List, length, get_or}
use Rattle.grouping_chart.specs.Chart.{largest}
use Rattle.grouping_preprocessor.specs.passes.LookUps.{streaks, Linked}
use Rattle.grouping_preprocessor.specs.declared.tables.Tables.{Tables}
use Rattle.call_encode.specs.Call.{Memory}

-- tables whose intervals are bytes, and room for their objects in each answer slice
pub record SpreadRoom (t : Tables) (streak streak_place pattern pattern_place hit interval : List ℕ) : Type 0 where
  pub linked : Linked t
  pub bytes : (j : ℕ) → get_or t.interval.now j 0 < 256
  pub streak_room : length (streaks t) ≤ length streak
  pub streak_place_room : length (streaks t) ≤ length streak_place
  pub pattern_room : length (streaks t) ≤ length pattern
  pub pattern_place_room : length (streaks t) ≤ length pattern_place
  pub hit_room : length (streaks t) ≤ length hit
  pub interval_room : length (streaks t) ≤ length interval

-- room for n objects in each answer slice and in the work slice, and a search limit whose intervals are bytes
pub record KindsRoom (n limit : ℕ) (m : Memory) : Type 0 where
  pub few : n ≤ largest
  pub streak : n ≤ length m.streak
  pub streak_place : n ≤ length m.streak_place
  pub pattern : n ≤ length m.pattern
  pub pattern_place : n ≤ length m.pattern_place
  pub hit : n ≤ length m.hit
  pub interval : n ≤ length m.interval
  pub work : 8 * n ≤ length m.work
  pub bytes : limit ≤ 254
