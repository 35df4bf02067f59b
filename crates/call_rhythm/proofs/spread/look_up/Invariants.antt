-- The loop's invariant: the numbers before this one are looked up.
use Rattle.call_rhythm.proofs.SpreadLaws.{Looked}
use Rattle.call_rhythm.proofs.spread.look_up.Given as goal

abbrev pub invariant-loop-number : goal.invariant-loop-number
invariant-loop-number l = Looked l.table l.initial.numbers l.numbers l.number-index
