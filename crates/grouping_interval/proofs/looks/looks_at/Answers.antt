-- Of few values none is looked at; a turn adds whether the next neighbours are of the class.
use Rattle.std.proofs.Common.{arith}
use Rattle.grouping_interval.proofs.MarkLaws.{neighbours}
use Rattle.grouping_interval.proofs.LookLaws.{none_looked_at, looking_start, looking_turn, looking_done}
use Rattle.grouping_interval.proofs.looks.looks_at.Goals as goal

pub returns-then-n-le2 : goal.returns-then-n-le2
returns-then-n-le2 g c class gives = none_looked_at class _ _ c.if-n-le2.true

pub loop-i-init : goal.loop-i-init
loop-i-init g c class gives = looking_start class _ _ _ (omega (arith, c.if-n-le2.false))

pub loop-i-preserved : goal.loop-i-preserved
loop-i-preserved g c class gives =
    let i = c.loop-i.i in
    let a = c.index-values-i.result in
    let inside = c.loop-i-test.true in
    let given = c.class-before.result in
    let post = neighbours (λ x y. goal.F-post g c.args.class x y given) _ i inside c.index-values-i.is c.index-values-i-in-loop-i.is c.class-before.ensures in
    rw c.opens_next-opens.ensures
    (looking_turn class _ (c.loop-i.invariant class gives) a given inside (gives a i given (omega arith) post))

pub returns : goal.returns
returns g c class gives = looking_done class _ (c.loop-i.invariant class gives) c.loop-i-test.false
