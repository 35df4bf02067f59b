-- Each value is tested at its place.
use Rattle.std.proofs.Common.{◌∙◌, rules}
use lib.ListN.{get_or}
use lib.Ieee.{nan}
use Rattle.numeric.specs.Range.{within}
use Rattle.grouping_chart.proofs.AllLaws.{places_all}
use Rattle.grouping_chart.proofs.good.all_within.Goals as goal

pub returns : goal.returns
returns c =
    let values = c.args.values.now in
    c.all_places.ensures (λ i. within c.args.lo c.args.hi (get_or values i nan)) (λ i given h e. search rules)
    ∙ places_all (within c.args.lo c.args.hi) values nan
