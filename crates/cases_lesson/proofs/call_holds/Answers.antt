-- The ratios are read from the body, and the pairs from the part.
use Rattle.vectors.proofs.SentinelLaws.{ones_lent}
use Rattle.cases_colour.proofs.ColourLaws.{ratios_front}
use Rattle.cases_lesson.proofs.LessonLaws.{front_read, pairs_told, read_told}
use Rattle.cases_lesson.proofs.call_holds.Goals as goal

pub chart_with-chart-requires-clause-ones : goal.chart_with-chart-requires-clause-ones
chart_with-chart-requires-clause-ones c = ones_lent c.args.room.few

pub chart_with-chart-requires-clause-ratios : goal.chart_with-chart-requires-clause-ratios
chart_with-chart-requires-clause-ratios c = rw c.read_ratios.ensures (ratios_front _ _ _ _ _)

pub returns : goal.returns
returns c =
    let offsets = front_read _ c.numbers.ensures.long c.numbers.ensures.values c.read.ensures in
    let lengths = front_read _ c.numbers-2.ensures.long c.numbers-2.ensures.values c.read-2.ensures in
    read_told _ _ _ _ _ c.chart_with-chart.ensures (pairs_told _ c.pair_count-pairs.ensures.count offsets lengths) c.filled_hold.ensures
