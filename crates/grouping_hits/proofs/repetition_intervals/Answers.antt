-- Each pass looks one nearer, until the one that looks 1 back is done.
use native.Mathlib.Omega.{arith}
use Rattle.grouping_hits.proofs.IntervalLaws.{search_start, search_turn, search_end}
use Rattle.grouping_hits.proofs.repetition_intervals.Goals as goal

pub loop-k-init : goal.loop-k-init
loop-k-init c = search_start _ _ _ _ _ c.args.limit.some c.requires (rw c.len.ensures at c.front.ensures)

pub loop-k-preserved : goal.loop-k-preserved
loop-k-preserved c = search_turn _ _ _ _ _ c.loop-k.invariant (omega arith) (omega arith) c.take_matches.ensures

pub returns : goal.returns
returns c = search_end _ _ _ _ _ c.loop-k.invariant (omega arith)
