-- `repeat` meets its contract: a turn writes the last block behind itself.
use Rattle.std.proofs.Common.{arith}
use Rattle.letters_count.proofs.RepeatLaws.{blocks_start, blocks_turn}
use Rattle.letters_count.proofs.repeat.Goals as goal

pub loop-k-init : goal.loop-k-init
loop-k-init c = blocks_start _ c.requires

pub loop-k-preserved : goal.loop-k-preserved
loop-k-preserved c =
    let cut = c.split_at_mut-stored in
    blocks_turn _ c.requires _ cut.result.0.now cut.result.1.now c.loop-k.k (omega arith) c.loop-k-test.true cut.ensures.front c.copy.ensures
    c.loop-k.invariant
