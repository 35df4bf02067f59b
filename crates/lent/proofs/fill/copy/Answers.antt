-- A turn copies what stands at place i.
use Rattle.std.proofs.Common.{refl}
use Rattle.lent.proofs.FillLaws.{fill_start_front, fill_turn_front, fill_end_front}
use Rattle.lent.proofs.fill.copy.Goals as goal

pub loop-i-init : goal.loop-i-init
loop-i-init g c = fill_start_front _ _ _ refl c.requires

pub loop-i-preserved : goal.loop-i-preserved
loop-i-preserved g c = fill_turn_front c.index-src-i.result c.loop-i.invariant c.loop-i-test.true c.index-src-i.is

pub returns : goal.returns
returns g c = fill_end_front c.loop-i.invariant c.loop-i-test.false
