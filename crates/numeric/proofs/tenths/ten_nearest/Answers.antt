-- From a shift of 58 on, nothing is left.
use mathlib.Core.Path.{sym}
use lib.Dec.{lit<}
use Rattle.numeric.proofs.tenths.Tens.{nothing_left}
use Rattle.numeric.proofs.tenths.ten_nearest.Goals as goal

pub returns-then-shift-gt57 : goal.returns-then-shift-gt57
returns-then-shift-gt57 c = record { equal = sym (nothing_left c.args.digits c.args.shift c.requires c.if-shift-gt57.true); small = lit< tt }
