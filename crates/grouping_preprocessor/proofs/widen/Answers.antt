-- Each place takes its kind.
use Rattle.std.proofs.Common.{sym, ap, ◌∙◌, rules}
use lib.ListN.{length, get_or}
use Rattle.lent.specs.Over.{over}
use Rattle.lent.proofs.FillLaws.{tabulate_places}
use Rattle.lent.proofs.PieceLaws.{over_whole}
use mathlib.Core.Path.{refl}
use Rattle.grouping_preprocessor.proofs.widen.Goals as goal

pub returns : goal.returns
returns c =
    let kinds = c.args.kind.now in
    c.by_place.ensures (λ i. get_or kinds i 0) (λ i given h e. search rules)
    ∙ ap (λ l. over l c.args.wide.now) (tabulate_places kinds 0 (length kinds) refl)
    ∙ over_whole kinds c.args.wide.now (sym c.requires)
