-- A number has one byte or two, and there is room for two.
use Rattle.vectors.proofs.ColumnLaws.{numbers_room}
use Rattle.vectors.proofs.column.Column.numbers.Goals as goal

pub invariant_of-result : goal.invariant_of-result
invariant_of-result c = numbers_room _ _ _ c.from.ensures c.requires
