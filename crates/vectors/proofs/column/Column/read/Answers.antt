-- Each place takes the value of its number, so that all of them are the column's.
use Rattle.std.proofs.Common.{ap, ◌∙◌, sym, rules, get_or, List, ℕ}
use Rattle.std.proofs.lemmas.Option.{unwrap_or-slice_get}
use Rattle.lent.specs.Over.{over}
use Rattle.lent.proofs.FillLaws.{tabulate_places}
use Rattle.vectors.proofs.column.Column.read.Goals as goal

pub returns : goal.returns
returns c =
    let a = c.args in
    c.by_place.ensures (λ i. get_or a.self.now i 0) (λ i given h e. search (rules, unwrap_or-slice_get))
    ∙ ap (λ (xs : List ℕ). over xs a.out.now) (tabulate_places a.self.now 0 _ (sym c.count.ensures))
