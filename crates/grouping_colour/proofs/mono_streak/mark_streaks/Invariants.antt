-- The pass over the kinds, whose state is the kind of the last note, has stored its marks so far.
use lib.ListN.{length}
use Rattle.std.specs.Prelude.{None}
use Rattle.lent.proofs.ScanLaws.{Walk}
use Rattle.grouping_colour.specs.passes.Streaks.{opens_after, last_after}
use Rattle.grouping_colour.proofs.mono_streak.mark_streaks.Given as goal

abbrev pub invariant-loop-i : goal.invariant-loop-i
invariant-loop-i l = Walk last_after opens_after None l.fn.kind (length l.fn.kind) 0 l.fn.marks l.marks l.last l.i
