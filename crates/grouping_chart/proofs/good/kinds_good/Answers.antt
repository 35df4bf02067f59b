-- Each kind is tested at its place.
use Rattle.std.proofs.Common.{◌∙◌, rules}
use lib.ListN.{get_or}
use Rattle.grouping_chart.specs.Refusal.{kind_good}
use Rattle.grouping_chart.proofs.AllLaws.{places_all}
use Rattle.grouping_chart.proofs.good.kinds_good.Goals as goal

pub returns : goal.returns
returns c =
    let kinds = c.args.kind.now in
    c.all_places.ensures (λ i. kind_good (get_or kinds i 0)) (λ i given h e. search rules) ∙ places_all kind_good kinds 0
