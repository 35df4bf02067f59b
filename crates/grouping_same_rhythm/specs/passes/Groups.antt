-- What the pass over the groups' intervals asks.
use Rattle.std.specs.Prelude.{ℕ, ◌≤◌, ◌<◌, List, length, get_or, Float}

-- each group's first object is one of the chart's
pub record IntervalsRoom (starts : List Float) (firsts : List ℕ) (intervals : List Float) : Type 0 where
  pub room : length firsts ≤ length intervals
  pub inside : (k : ℕ) → k < length firsts → get_or firsts k 0 < length starts
