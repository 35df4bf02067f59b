-- A turn stores one item more, and where all are stored the last ones stand in front.
use Rattle.grouping_marks.proofs.StoreLaws.{storing_turn, storing_end}
use Rattle.grouping_marks.proofs.ends.last_items.Goals as goal

pub loop-i-preserved : goal.loop-i-preserved
loop-i-preserved c = rw c.from.ensures (storing_turn c.loop-i.invariant c.loop-i-test.true)

pub returns : goal.returns
returns c = storing_end c.loop-i.invariant c.loop-i-test.false c.requires.inside
