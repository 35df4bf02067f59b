-- Two neighbouring deltas of which each is known to within a range: which class they surely have (change requests:
-- 6/12). `Sure` of Choices.antt says in what sense, and sure_classes, in proofs/SureLaws.antt, that this is it exactly.
use Rattle.std.specs.Prelude.{ℕ, Bool, not, cond, ◌&&◌, ◌||◌, Float}
use Rattle.std.specs.Float.Ieee.{lt}
use Rattle.numeric.specs.Near.{is_near}
use Rattle.grouping_interval.specs.IntervalGrouping.{is_rise}
use Rattle.grouping_ranges.specs.declared.Range.{Range}

-- one range lies below the other and no two of their values are near: those that face each other lie nearest
abbrev pub far_apart : Float → Range → Range → Bool
far_apart margin a b =
    (lt b.high a.low && not (is_near margin a.low b.high)) || (lt a.high b.low && not (is_near margin a.high b.low))

-- the class that all choices have, near 0, a rise 1 and neither 2, or 3 where there is none
unfoldable pub sure_class : Float → Range → Range → ℕ
sure_class margin a b =
    cond (is_near margin a.high b.low && is_near margin a.low b.high) 0
    (cond (not (is_near margin a.high b.low) && is_rise margin a.high b.low) 1
    (cond (far_apart margin a b && not (is_rise margin a.low b.high)) 2 3))
