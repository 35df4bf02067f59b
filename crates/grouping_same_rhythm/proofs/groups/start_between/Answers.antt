-- By the test's value.
use lib.Ieee.{of_bits}
use Rattle.grouping_same_rhythm.specs.SameRhythm.{between}
use Rattle.grouping_same_rhythm.proofs.groups.start_between.Goals as goal

pub returns-then-near : goal.returns-then-near
unfolding between of_bits
returns-then-near c = rw (← c.near.ensures, c.if-near.true)

pub returns-else-near : goal.returns-else-near
unfolding between of_bits
returns-else-near c = rw (← c.near.ensures, c.if-near.false)
