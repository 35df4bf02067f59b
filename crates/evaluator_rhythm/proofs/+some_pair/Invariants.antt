-- Each call has one own interval fewer.
use Rattle.std.proofs.Common.{length}
use Rattle.evaluator_rhythm.proofs.+some_pair.Given as goal

abbrev pub decreases-some_pair : goal.decreases-some_pair
decreases-some_pair l = length l.owns.now
