-- A turn goes on with the open group or opens the next, whose first item was not stored over yet. Whatever place the read names, it is i.
use mathlib.Core.Path.{refl, ap, ◌∙◌}
use mathlib.Core.Bool.{cond}
use native.Mathlib.Omega.{arith}
use lib.Dec.{eqb}
use lib.ListN.{get_or}
use Rattle.grouping_marks.proofs.PassLaws.{firsts_turn, firsts_unread}
use Rattle.grouping_marks.proofs.keep_firsts.Goals as goal

pub loop-i-preserved : goal.loop-i-preserved
loop-i-preserved c =
    let by = cond (eqb (get_or c.args.marks.now c.loop-i.i 0) 0) c.loop-i.first in
    let read = c.by_mark-first.ensures ∙ ap by (firsts_unread c.loop-i.invariant refl (omega arith)) in
    firsts_turn c.loop-i.invariant _ _ c.loop-i-test.true read c.opens-groups.ensures
