-- A value of a column, or 0, is what `get_or` gives.
use Rattle.std.proofs.Common.{rules}
use Rattle.std.proofs.lemmas.Option.{unwrap_or-slice_get}
use Rattle.vectors.specs.Table.{entry_at}
use Rattle.vectors.proofs.table.entry_at.Goals as goal

pub returns : goal.returns
unfolding entry_at
returns c = search (rules, unwrap_or-slice_get)
