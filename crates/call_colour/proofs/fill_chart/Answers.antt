-- `fill_chart` meets its contract: the values by the encoder's tables, which are then cleared.
use Rattle.call_colour.specs.Call.{memory}
use Rattle.call_colour.proofs.FilledLaws.{filled_is}
use Rattle.call_colour.proofs.fill_chart.Goals as goal

pub returns : goal.returns
returns c =
    let a = c.args in
    let tables = rw c.of-limit.ensures at c.encode_levels-k.ensures.tables in
    filled_is a.s _ (memory a.value.now a.work.now a.scratch.now) tables c.fill_values.ensures
    c.front.ensures c.front-2.ensures
