-- Reading starts and deltas.
use Rattle.std.specs.Prelude.{◌≡◌, List, ℕ, ◌+◌, ◌*◌, ◌≤◌, length, Float}
use Rattle.lent.specs.Over.{over}
use Rattle.grouping_chart.specs.Chart.{largest}
use Rattle.vectors.specs.Case.{words}
use Rattle.vectors.specs.Table.{floats}

-- both columns, read over what was there
pub record TimesRead (n : ℕ) (body : List ℕ) (start₀ start delta₀ delta : List Float) : Type 0 where
  pub starts : start ≡ over (floats (words body (4 + n) n)) start₀
  pub deltas : delta ≡ over (floats (words body (4 + 9 * n) n)) delta₀

-- room for both
pub record TimesRoom (n : ℕ) (start delta : List Float) : Type 0 where
  pub few : n ≤ largest
  pub start_room : n ≤ length start
  pub delta_room : n ≤ length delta
