-- No value, no mark; a turn stores the mark of the next value, and the last mark stands alone.
use Rattle.std.proofs.Common.{arith}
use Rattle.grouping_interval.proofs.MarkLaws.{neighbours, marking_none, marking_start, marking_turn, marking_done}
use Rattle.grouping_interval.proofs.marks.mark_classes.Goals as goal

pub returns-then-n-eq0 : goal.returns-then-n-eq0
returns-then-n-eq0 g c class gives = marking_none class _ _ c.if-n-eq0.true

pub loop-i-init : goal.loop-i-init
loop-i-init g c class gives = marking_start class _ _ _ c.requires.room c.if-n-eq0.false

pub loop-i-preserved : goal.loop-i-preserved
loop-i-preserved g c class gives =
    let i = c.loop-i.i in
    let a = c.index-values-i.result in
    let inside = c.loop-i-test.true in
    let given = c.class-before.result in
    let post = neighbours (λ x y. goal.F-post g c.args.class x y given) _ i inside c.index-values-i.is c.index-values-i-in-loop-i.is c.class-before.ensures in
    rw (c.mark_of.ensures, c.opens_next-opens.ensures)
    (marking_turn (c.loop-i.invariant class gives) a given inside (gives a i given (omega arith) post))

pub returns : goal.returns
returns g c class gives = marking_done (c.loop-i.invariant class gives) c.loop-i-test.false c.last_mark.ensures
