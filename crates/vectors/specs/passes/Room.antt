-- How many places the slices of a case may have.
use Rattle.std.specs.Prelude.{ℕ, ◌≤◌}
use Rattle.grouping_chart.specs.Chart.{largest}

-- a place for each object of the largest chart, and 7 to spare
abbrev pub most_places : ℕ
most_places = 16391

-- eight for each object, and 7 to spare
abbrev pub most_work : ℕ
most_work = 131079

-- no more objects and no more places to spare than there is room for
pub record Few (n spare : ℕ) : Type 0 where
  pub objects : n ≤ largest
  pub places : spare ≤ 7
