-- What is sure of two ranges of deltas: what every choice of two deltas inside them has (change requests: 6/12).
use Rattle.std.specs.Prelude.{◌≡◌, ℕ, ◌<◌, T, Float}
use Rattle.std.specs.Float.{binary64}
use Rattle.std.specs.Float.Ieee.{le, fits}
use Rattle.grouping_chart.specs.Refusal.{time_good}
use Rattle.grouping_interval.specs.IntervalGrouping.{pair_class}
use Rattle.grouping_ranges.specs.declared.Range.{Range}
use Rattle.grouping_ranges.specs.SureClass.{sure_class}

-- two ends in order, f64s that no call refuses
pub record GoodRange (r : Range) : Type 0 where
  pub held_low : T (fits binary64 r.low)
  pub held_high : T (fits binary64 r.high)
  pub low : T (time_good r.low)
  pub high : T (time_good r.high)
  pub in_order : T (le r.low r.high)

-- an f64 from one end to the other
pub record Inside (r : Range) (x : Float) : Type 0 where
  pub held : T (fits binary64 x)
  pub from : T (le r.low x)
  pub upto : T (le x r.high)

-- every choice of two deltas inside two ranges has this class
abbrev pub All : Float → Range → Range → ℕ → Type 0
All margin a b class = (x y : Float) → Inside a x → Inside b y → pair_class margin x y ≡ class

-- near, a rise and neither are told exactly where every choice has them, and open exactly where of none of the three
-- that is so
pub record Sure (margin : Float) (a b : Range) : Type 0 where
  pub told : (class : ℕ) → class < 3 → sure_class margin a b ≡ class → All margin a b class
  pub telling : (class : ℕ) → class < 3 → All margin a b class → sure_class margin a b ≡ class
  pub left_open : sure_class margin a b ≡ 3 → (class : ℕ) → class < 3 → All margin a b class → ⊥
  pub opening : ((class : ℕ) → class < 3 → All margin a b class → ⊥) → sure_class margin a b ≡ 3
