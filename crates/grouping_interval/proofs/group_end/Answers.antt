-- The case of each test.
use Rattle.std.proofs.Common.{true, false, sym, ◌∙◌}
use Rattle.grouping_interval.proofs.GroupLaws.{within_end}
use Rattle.grouping_interval.proofs.group_end.Goals as goal

pub returns-then-rise : goal.returns-then-rise
returns-then-rise c =
    within_end c.loop-i.invariant c.loop-i-test.true true (sym c.near.ensures ∙ c.if-not-near.true) (sym c.rise.ensures ∙ c.if-rise.true)

pub returns-else-rise : goal.returns-else-rise
returns-else-rise c =
    within_end c.loop-i.invariant c.loop-i-test.true false (sym c.near.ensures ∙ c.if-not-near.true) (sym c.rise.ensures ∙ c.if-rise.false)
