-- The slices that are lent are full of sentinels, and the ratios are read from the body.
use Rattle.std.proofs.Common.{arith}
use Rattle.vectors.proofs.SentinelLaws.{front_counts, ones_lent}
use Rattle.cases_colour.proofs.ColourLaws.{ratios_front, made_told}
use Rattle.cases_colour.proofs.call_holds.Goals as goal

pub chart_with-chart-requires-clause-ones : goal.chart_with-chart-requires-clause-ones
chart_with-chart-requires-clause-ones c = ones_lent c.args.room.few

pub chart_with-chart-requires-clause-ratios : goal.chart_with-chart-requires-clause-ratios
chart_with-chart-requires-clause-ratios c = rw c.read_ratios.ensures (ratios_front _ _ _ _ _)

pub slice_bounds-lent_holds-end-4 : goal.slice_bounds-lent_holds-end-4
slice_bounds-lent_holds-end-4 c = front_counts _ _ (omega arith)

pub returns : goal.returns
returns c =
    made_told c.args.room.few _ _ c.chart_with-chart.ensures (rw (c.places-places.ensures, c.work.ensures) at c.lent_holds.ensures)
