-- Each place takes the item behind the last of the group before it.
use Rattle.std.proofs.Common.{ap, ◌∙◌, length, List, ℕ, rules}
use Rattle.lent.specs.Over.{over}
use Rattle.lent.specs.Scan.{tabulate}
use Rattle.grouping_marks.proofs.ItemLaws.{first_by_last, firsts_by_lasts}
use Rattle.grouping_marks.proofs.ends.first_items.Goals as goal

pub returns : goal.returns
returns c marks e =
    c.by_place.ensures (first_by_last c.args.lasts.now) (λ j given h p. search rules)
    ∙ ap (λ (l : List ℕ). over (tabulate (first_by_last l) (length l)) c.args.firsts.now) e
    ∙ ap (λ (l : List ℕ). over l c.args.firsts.now) (firsts_by_lasts marks)
