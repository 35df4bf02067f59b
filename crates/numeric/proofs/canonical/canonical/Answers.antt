-- A NaN is nan, which the constant's bits read as.
use Rattle.std.proofs.Common.{sym, ◌∙◌}
use lib.Ieee.{of_bits}
use Rattle.numeric.proofs.NanLaws.{nan_alone}
use Rattle.numeric.proofs.canonical.canonical.Goals as goal

pub returns-then-is_nan : goal.returns-then-is_nan
unfolding of_bits
returns-then-is_nan c = sym (nan_alone c.args.x (sym c.is_nan.ensures.value ∙ c.if-is_nan.true))
