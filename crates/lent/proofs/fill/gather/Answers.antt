-- Each place takes what the table has at its number.
use Rattle.std.proofs.Common.{◌≡◌, sym, ap, ◌∙◌, map, arith, rules}
use lib.ListN.{length-map, get_or}
use Rattle.lent.specs.Over.{over}
use Rattle.lent.specs.Scan.{gathered}
use Rattle.std.proofs.lemmas.List.{get_or-map}
use Rattle.lent.proofs.FillLaws.{length-gathered, get_or-gathered, tabulate_places}
use Rattle.lent.proofs.fill.gather.Goals as goal

pub returns : goal.returns
returns g c =
    let f = g.T.Narrow.narrowed in
    let table = c.args.table.now in
    let idx = c.args.idx.now in
    let found = gathered table idx in
    let values = map f found in
    let d = f 0 in
    c.by_place.ensures (λ i. get_or values i d)
    (λ i given h e.
    let is : given ≡ f (get_or table (get_or idx i 0) 0) = search rules in
    is ∙ ap f (sym (get_or-gathered table idx i h)) ∙ sym (get_or-map f found i 0 d (omega (arith, length-gathered table idx))))
    ∙ ap (λ l. over l c.args.out.now) (tabulate_places values d _ (length-map found f ∙ length-gathered table idx))
