-- What the call's words mean: whatever deltas are chosen inside the ranges, where the groups are given they are those
-- of the choice, by the definitions that the call rhythm cites (change requests: 6/12).
use Rattle.std.specs.Prelude.{◌≡◌, ℕ, ◌<◌, T, List, length, get_or, Float, Some, Ok}
use Rattle.std.specs.Float.{nan, binary64}
use Rattle.std.specs.Float.Ieee.{fits}
use Rattle.lent.specs.Over.{over}
use Rattle.grouping_chart.specs.Settings.{Settings}
use Rattle.grouping_ranges.specs.Choices.{Inside}
use Rattle.call_rhythm.specs.Rhythm.{group_of, groups_in}
use Rattle.call_taps.specs.Taps.{TapChart, tap_size, range_of}
use Rattle.call_taps.specs.Call.{Memory, taps_outcome}

-- a delta for each object, a NonHit's too, inside its range
pub record Chosen (t : TapChart) (deltas : List Float) : Type 0 where
  pub each : length deltas ≡ tap_size t
  pub inside : (o : ℕ) → o < tap_size t → Inside (range_of t o) (get_or deltas o nan)

-- the call's answer and its group slice are what these deltas make them
pub record GivenBy (s : Settings) (t : TapChart) (m : Memory) (deltas : List Float) : Type 0 where
  pub number : (taps_outcome s t m).answer ≡ Ok (Some (groups_in s.margin t.kinds deltas))
  pub group : (taps_outcome s t m).memory.group ≡ over (group_of s.margin t.kinds deltas) m.group

-- both ends of each range are numbers of 64 bits, as those that are lent are
pub record Held (t : TapChart) : Type 0 where
  pub low : (o : ℕ) → T (fits binary64 (get_or t.lowest o nan))
  pub high : (o : ℕ) → T (fits binary64 (get_or t.highest o nan))
