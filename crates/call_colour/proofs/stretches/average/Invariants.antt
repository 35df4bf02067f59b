-- The loop's invariant: what is left of the notes' values, added to the sum and to the count so far, gives the whole sum and count.
use lib.ListN.{length}
use Rattle.call_colour.proofs.TurnLaws.{Summed}
use Rattle.call_colour.proofs.stretches.average.Given as goal

abbrev pub invariant-loop-k : goal.invariant-loop-k
invariant-loop-k l = Summed l.fn.kind l.fn.value l.sum l.notes (length l.yielded)
