-- At its end a file whose first case was not read has no cases.
use Rattle.replay_cases.proofs.CountLaws.{start_some}
use Rattle.replay_read.proofs.ReadLaws.{nothing_read}
use Rattle.replay_read.proofs.no_cases.Goals as goal

pub after-requires : goal.after-requires
after-requires c = start_some c.start.ensures

pub returns : goal.returns
returns c = λ call. nothing_read call c.start.ensures c.after.ensures
