-- The walk goes on to the next pattern, until it stands at the one that holds group g.
use Rattle.std.proofs.Common.{arith, ◌∙◌}
use lib.Ieee.{of_bits}
use Rattle.grouping_interval.specs.GroupEnd.{group_end}
use Rattle.grouping_same_rhythm.proofs.PatternsLaws.{found-start, found_turn, found_lies, pattern_first, pattern-later}
use Rattle.grouping_same_rhythm.proofs.patterns.pattern_at.Goals as goal

pub loop-end-init : goal.loop-end-init
loop-end-init c =
    found-start _ _ _ c.requires
    (c.step-end.ensures.1 ∙ (λ i. group_end c.args.margin (c.new.ensures.0 i).now (c.new.ensures.1 i)))

pub loop-end-smaller : goal.loop-end-smaller
loop-end-smaller c =
    omega (arith, found_lies (found_turn c.loop-end.invariant c.loop-end-test.true c.step-end-in-loop-end.ensures.1))

pub loop-end-preserved : goal.loop-end-preserved
loop-end-preserved c = found_turn c.loop-end.invariant c.loop-end-test.true c.step-end-in-loop-end.ensures.1

pub returns-then-number-eq0 : goal.returns-then-number-eq0
unfolding of_bits
returns-then-number-eq0 c = pattern_first c.loop-end.invariant c.loop-end-test.false c.if-number-eq0.true

pub slice_bounds-pattern_interval-end : goal.slice_bounds-pattern_interval-end
slice_bounds-pattern_interval-end c = (found_lies c.loop-end.invariant).upto

pub returns : goal.returns
returns c =
    pattern-later c.loop-end.invariant c.loop-end-test.false c.if-number-eq0.false _ _ c.pattern_interval-this.ensures c.pattern_interval-previous.ensures
