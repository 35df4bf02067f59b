-- What is told of either call, and what it leaves.
use Rattle.std.specs.Prelude.{◌≡◌, Bool}
use Rattle.grouping_chart.specs.Chart.{Chart}
use Rattle.call_colour.specs.Call.{Memory}
use Rattle.vectors.specs.Held.{Tells}
use Rattle.cases_colour.specs.Colour.{Answers, leaves}
use Rattle.cases_colour.specs.declared.Asked.{Asked}

-- what a call on lent slices tells
pub record CallTold (call : Asked) (c : Chart) (m m' : Memory) (r : Bool) : Type 0 where
  pub told : Tells r (Answers call c m)
  pub memory : m' ≡ leaves call c m
