-- A turn is a step of the pass.
use native.Mathlib.Omega.{arith}
use mathlib.Core.Path.{refl}
use Rattle.std.specs.Prelude.{None}
use Rattle.lent.proofs.ScanLaws.{start, turn_front, ended_front}
use Rattle.grouping_colour.specs.passes.Streaks.{opens_after, last_after}
use Rattle.grouping_colour.proofs.StreakLaws.{marks_stored}
use Rattle.grouping_colour.proofs.mono_streak.mark_streaks.Goals as goal

pub loop-i-init : goal.loop-i-init
loop-i-init c = start last_after opens_after None _ _ _ _ refl (omega arith)

pub loop-i-preserved : goal.loop-i-preserved
loop-i-preserved c = turn_front 0 c.loop-i.invariant c.loop-i-test.true c.opens_streak.ensures c.last_after-last.ensures

pub returns : goal.returns
returns c = marks_stored _ _ _ (ended_front c.loop-i.invariant c.loop-i-test.false)
