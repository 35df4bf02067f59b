-- The loop of `repeat`: k blocks stand from `start` on.
use Rattle.std.proofs.Common.{◌≡◌, ◌+◌, ◌*◌, take}
use Rattle.letters_grammar.specs.Reading.{repeated}
use Rattle.letters_count.proofs.repeat.Given as goal

abbrev pub invariant-loop-k : goal.invariant-loop-k
invariant-loop-k l = take (l.start + l.k * l.size) l.kinds ≡ repeated l.k l.start (take l.end l.initial.kinds)
