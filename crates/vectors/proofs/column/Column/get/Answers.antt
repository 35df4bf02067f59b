-- Each width is read as the value at a place is defined, and past the last value there is none.
use Rattle.std.proofs.Common.{◌∙◌}
use Rattle.vectors.specs.passes.Values.{value_at}
use Rattle.vectors.proofs.ColumnLaws.{read, past}
use Rattle.vectors.proofs.column.Column.get.Goals as goal

pub returns-then-i-self : goal.returns-then-i-self
returns-then-i-self c = past _ _ _ _ _ c.self.view_is _ c.if-i-self.true

pub returns-in-One : goal.returns-in-One
unfolding value_at
returns-in-One c = read _ _ _ _ _ c.self.view_is _ c.if-i-self.false (rw c.in-One.is (c.from.ensures ∙ c.byte_at.ensures))

pub returns-in-Two : goal.returns-in-Two
unfolding value_at
returns-in-Two c = read _ _ _ _ _ c.self.view_is _ c.if-i-self.false (rw c.in-Two.is (c.from-in-Two.ensures ∙ c.pair_at.ensures))

pub returns-in-Eight : goal.returns-in-Eight
unfolding value_at
returns-in-Eight c = read _ _ _ _ _ c.self.view_is _ c.if-i-self.false (rw c.in-Eight.is c.word_at.ensures)
