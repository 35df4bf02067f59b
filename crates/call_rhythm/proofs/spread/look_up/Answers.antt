-- A turn looks up one number.
use Rattle.call_rhythm.proofs.SpreadLaws.{looked_start}
use Rattle.call_rhythm.proofs.spread.look_up.Goals as goal

pub loop-number-init : goal.loop-number-init
loop-number-init c = looked_start _ _
