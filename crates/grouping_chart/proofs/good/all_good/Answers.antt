-- The four answers, joined as the definition joins them; the literals are the definition's limits by computation.
use Rattle.std.proofs.Common.{◌&&◌}
use lib.Ieee.{of_bits, neg}
use Rattle.grouping_chart.specs.Refusal.{time_good, ratio_good}
use Rattle.grouping_chart.specs.passes.Good.{all_good}
use Rattle.grouping_chart.proofs.good.all_good.Goals as goal

pub returns : goal.returns
unfolding all_good time_good ratio_good of_bits neg
returns c = λ t.
    c.kinds_good-kinds.ensures t
    && (c.all_within-starts.ensures t && (c.all_within-deltas.ensures t && c.all_within-ratios.ensures t))
