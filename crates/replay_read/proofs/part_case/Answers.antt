-- As for a case with a chart: the test was handed the bytes that were read.
use Rattle.std.proofs.Common.{arith}
use Rattle.replay_read.specs.Read.PartRead.{told, broken}
use Rattle.replay_read.proofs.part_case.Goals as goal

pub returns-then-body-whole : goal.returns-then-body-whole
returns-then-body-whole c = broken

pub returns-then-part-size : goal.returns-then-part-size
returns-then-part-size c = broken

pub returns-then-read_full-size : goal.returns-then-read_full-size
returns-then-read_full-size c = broken

pub returns : goal.returns
returns c = told (omega arith) (omega arith) c.part_holds-held.ensures
