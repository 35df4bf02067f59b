-- A turn looks at one hit pattern more; those before the k-th keep what they have.
use native.Mathlib.Omega.{arith}
use Rattle.grouping_hits.proofs.IntervalLaws.{taken_start, taken_turn, taken_end}
use Rattle.grouping_hits.proofs.take_matches.Goals as goal

pub loop-h-init : goal.loop-h-init
loop-h-init c = rw c.from-back.ensures (taken_start _ _ _ _ _ c.requires)

pub loop-h-preserved : goal.loop-h-preserved
loop-h-preserved c =
    taken_turn _ _ _ _ _ c.loop-h.invariant (omega arith) (rw c.from-back.ensures at c.alike.ensures) c.nearer.ensures

pub returns : goal.returns
returns c = taken_end _ _ _ _ _ c.loop-h.invariant (omega arith)
