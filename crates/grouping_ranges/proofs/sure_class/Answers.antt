-- The two bits tell the first of the three tests that holds, or 3.
use Rattle.std.proofs.Common.{◌∙◌, not, ◌&&◌}
use Rattle.numeric.specs.Near.{is_near}
use Rattle.grouping_interval.specs.IntervalGrouping.{is_rise}
use Rattle.grouping_ranges.specs.SureClass.{far_apart, sure_class}
use Rattle.grouping_ranges.proofs.SureLaws.{first_of_bits}
use Rattle.grouping_ranges.proofs.sure_class.Goals as goal

pub returns : goal.returns
unfolding sure_class
returns c =
    let m = c.args.margin in
    let a = c.args.a in
    let b = c.args.b in
    let up = is_near m a.high b.low in
    let bits = rw (c.near-near_up.ensures, c.near-near_down.ensures, c.rise.ensures, c.rise-no_rise.ensures) at c.class_of_bits.ensures in
    bits
    ∙ first_of_bits (up && is_near m a.low b.high) (not up && is_rise m a.high b.low) (far_apart m a b && not (is_rise m a.low b.high))
