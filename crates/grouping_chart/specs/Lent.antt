-- The chart that the lent slices hold.
use Rattle.grouping_chart.specs.Chart.{Chart, chart}
use Rattle.grouping_chart.specs.declared.chart.Chart as lent

abbrev pub seen : lent.Chart → Chart
seen c = chart c.kind.now c.start.now c.delta.now c.ratio.now
