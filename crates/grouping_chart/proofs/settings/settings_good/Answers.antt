-- The four answers, joined as the definition joins them; the literals are 0, 1 and 50 by computation.
use mathlib.Core.Bool.{◌&&◌}
use lib.Dec.{leb}
use lib.Ieee.{of_bits}
use Rattle.grouping_chart.specs.Settings.{settings_good}
use Rattle.grouping_chart.proofs.settings.settings_good.Goals as goal

pub returns : goal.returns
unfolding settings_good of_bits
returns c =
    let limit = c.args.s.search_limit in
    λ t. c.is_within-margin.ensures t && ((leb 2 limit && leb limit 64) && (c.is_within-threshold.ensures t && c.is_within-tolerance.ensures t))
