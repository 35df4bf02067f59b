-- The six answers, joined as the definition joins them; the literals are the limits of a time and of a ratio by computation.
use Rattle.std.proofs.Common.{◌∙◌, ◌&&◌, rules}
use lib.ListN.{get_or}
use lib.Ieee.{nan, le, of_bits, neg}
use Rattle.grouping_chart.proofs.RangeLaws.{all_times, all_ratios}
use Rattle.call_taps.specs.passes.Rooms.{all_good}
use Rattle.call_taps.proofs.verdict.all_good.Goals as goal

pub returns : goal.returns
unfolding all_good of_bits neg
returns c =
    let a = c.args.taps in
    let starts = c.all_within-starts.ensures ∙ all_times a.start.now in
    let lowest = c.all_within-lowest.ensures ∙ all_times a.lowest.now in
    let highest = c.all_within-highest.ensures ∙ all_times a.highest.now in
    let in_order =
    c.all_places-in_order.ensures (λ i. le (get_or a.lowest.now i nan) (get_or a.highest.now i nan)) (λ i given h e. search rules) in
    let ratios = c.all_within-ratios.ensures ∙ all_ratios a.ratio.now in
    λ t. c.kinds_good-kinds.ensures t && (starts t && (lowest t && (highest t && (in_order t && ratios t))))
