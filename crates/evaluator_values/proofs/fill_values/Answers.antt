-- Each place takes its object's value, by tables that are those of the kinds.
use Rattle.std.proofs.Common.{◌≡◌, ◌∙◌, arith, rules}
use Rattle.grouping_preprocessor.proofs.LookUpsLaws.{tables_of}
use Rattle.evaluator_values.specs.Colour.{colour_at, colour_values}
use Rattle.evaluator_values.specs.passes.Tables.{looked_colour}
use Rattle.evaluator_values.proofs.TablesLaws.{object_in, colour_is}
use Rattle.evaluator_values.proofs.fill_values.Goals as goal

pub by_place-requires-clause-callable : goal.by_place-requires-clause-callable
by_place-requires-clause-callable c = λ i h.
    let o = object_in (tables_of {t = c.of-tables.result} c.requires.sources.tabled.tables c.of-tables.ensures) i (omega (arith, h)) in
    search rules

pub returns : goal.returns
unfolding colour_values
returns c =
    let e = tables_of {t = c.of-tables.result} c.requires.sources.tabled.tables c.of-tables.ensures in
    let a = c.args in
    c.by_place.ensures (colour_at a.levels.limit a.tolerance a.chart.kind.now a.chart.ratio.now)
    (λ i given h p.
    let is : given ≡ looked_colour a.tolerance a.chart.ratio.now c.of-tables.result i = search rules in
    is ∙ colour_is e a.tolerance a.chart.ratio.now i h)
