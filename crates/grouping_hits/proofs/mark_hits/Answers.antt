-- A turn puts the mark at its stage, and goes on to the next.
use native.Mathlib.Omega.{arith}
use Rattle.lent.proofs.InPlaceLaws.{place_turn}
use Rattle.grouping_hits.proofs.HitLaws.{marked_start, marked_end}
use Rattle.grouping_hits.proofs.mark_hits.Goals as goal

pub loop-flag-init : goal.loop-flag-init
loop-flag-init c = marked_start c.args.flags.now

pub loop-flag-preserved : goal.loop-flag-preserved
loop-flag-preserved c = place_turn c.loop-flag.invariant (omega arith) c.opens_hit.ensures c.stage_after-stage.ensures

pub returns : goal.returns
returns c = marked_end _ _ _ _ c.loop-flag.invariant (omega arith)
