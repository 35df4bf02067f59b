-- The object that is built of the raw one is tested, with 1.0 for its ratio.
use lib.Ieee.{of_bits}
use Rattle.call_build.specs.Lent.{raw_seen}
use Rattle.call_build.proofs.ChartLaws.{reason_found}
use Rattle.call_build.proofs.verdict.built_refusal.Goals as goal

pub returns : goal.returns
unfolding of_bits
returns c =
    let t = c.args.timed in
    reason_found t.rate (raw_seen t.raw) c.args.i c.requires c.start-start.ensures c.delta-delta.ensures c.object_refusal.ensures
