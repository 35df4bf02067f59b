-- The kinds stand behind the body's first number; the others are as they were handed.
use Rattle.lent.proofs.OverLaws.{lent-part}
use Rattle.grouping_chart.specs.Chart.{chart}
use Rattle.cases_colour.specs.Colour.{colour_chart}
use Rattle.cases_colour.proofs.chart_with.Goals as goal

pub returns : goal.returns
unfolding colour_chart
returns c =
    let kinds = lent-part 2 c.args.room.case.head.objects c.args.room.case.bytes.now in
    λ i. chart (kinds i) (c.requires.ones i) (c.requires.ones i) (c.requires.ratios i)
