-- The test was handed the bytes that were read, which still stand at the front of the lent slice.
use Rattle.std.proofs.Common.{arith}
use Rattle.replay_read.specs.Read.ChartRead.{told, broken}
use Rattle.replay_read.proofs.chart_case.Goals as goal

pub returns-then-body-size : goal.returns-then-body-size
returns-then-body-size c = broken

pub returns-then-read_full-size : goal.returns-then-read_full-size
returns-then-read_full-size c = broken

pub returns : goal.returns
returns c = told (omega arith) c.chart_holds-held.ensures
