-- A column has as many values as it counts.
use Rattle.vectors.proofs.ColumnLaws.{counted}
use Rattle.vectors.proofs.column.Column.count.Goals as goal

pub returns : goal.returns
returns c = counted _ _ _ _ _ c.self.view_is
