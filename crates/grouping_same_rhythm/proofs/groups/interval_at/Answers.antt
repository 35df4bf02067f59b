-- The first group has none before it, so its interval is the infinity; a later one's is read off two neighbouring starts.
use Rattle.std.proofs.Common.{sym, ◌∙◌, arith}
use lib.Ieee.{of_bits}
use Rattle.grouping_same_rhythm.proofs.GroupsLaws.{interval_first, interval-later}
use Rattle.grouping_same_rhythm.proofs.groups.interval_at.Goals as goal

pub returns-then-k-eq0 : goal.returns-then-k-eq0
unfolding of_bits
returns-then-k-eq0 c = rw c.if-k-eq0.true (sym (interval_first _ _ _ (omega arith)))

pub returns : goal.returns
returns c = (rw (c.from-previous.ensures, c.from-at.ensures) at c.start_between.ensures) ∙ sym (interval-later _ _ _ c.args.k c.requires.there c.if-k-eq0.false)
