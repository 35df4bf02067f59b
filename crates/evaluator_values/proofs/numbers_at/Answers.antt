-- Each number is looked up by the one before it, and is in range.
use Rattle.evaluator_values.proofs.TablesLaws.{pattern_in, numbers_are}
use Rattle.evaluator_values.proofs.numbers_at.Goals as goal

pub bounds-tables-pattern : goal.bounds-tables-pattern
bounds-tables-pattern c = rw (c.from-pattern.ensures, c.from-streak.ensures) (pattern_in c.requires)

pub returns : goal.returns
returns c = rw (c.from-hit.ensures, c.from-pattern.ensures, c.from-streak.ensures) (numbers_are c.requires)
