-- What became of the case is what the reader that its head asks for says of it.
use Rattle.replay_read.specs.Read.CaseRead.{broken, ended}
use Rattle.replay_read.proofs.ReadLaws.{chart_is_read, part_is_read}
use Rattle.replay_read.proofs.next_case.Goals as goal

pub returns-then-got-eq0 : goal.returns-then-got-eq0
returns-then-got-eq0 c = ended

pub returns-then-got-ne8 : goal.returns-then-got-ne8
returns-then-got-ne8 c = broken

pub returns-in-Body : goal.returns-in-Body
returns-in-Body c = chart_is_read c.read_head-h.ensures c.spare-spare.ensures c.follows.ensures c.in-Body.is c.chart_case.ensures

pub returns-in-Part : goal.returns-in-Part
returns-in-Part c = part_is_read c.read_head-h.ensures c.spare-spare.ensures c.follows.ensures c.in-Part.is c.part_case.ensures

pub returns-in-Nothing : goal.returns-in-Nothing
returns-in-Nothing c = broken
