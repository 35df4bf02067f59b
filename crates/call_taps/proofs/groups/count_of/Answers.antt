-- No number, no group; else the last number is one less than the count.
use Rattle.call_taps.proofs.GroupsLaws.{counted_none, counted_last}
use Rattle.call_taps.proofs.groups.count_of.Goals as goal

pub returns-then-n-eq0 : goal.returns-then-n-eq0
returns-then-n-eq0 c marks e = counted_none marks e c.if-n-eq0.true

pub returns : goal.returns
returns c marks e = counted_last marks e c.if-n-eq0.false c.from.ensures
