-- The two tests together are the test of the size.
use Rattle.std.proofs.Common.{sym}
use lib.Ieee.{binary64, sub}
use Rattle.numeric.specs.Near.{is_near}
use Rattle.numeric.proofs.near.Both.{le_abs}
use Rattle.numeric.proofs.near.near.Goals as goal

pub returns : goal.returns
unfolding is_near
returns c = sym (le_abs (sub binary64 c.args.a c.args.b) c.args.margin)
