-- The eight bytes, added as the definition adds them.
use Rattle.std.proofs.Common.{rules}
use Rattle.vectors.specs.Case.{bytes_at, pair_at, quad_at, word_at}
use Rattle.vectors.proofs.case.word_at.Goals as goal

pub returns : goal.returns
unfolding word_at quad_at pair_at bytes_at
returns c = search rules
