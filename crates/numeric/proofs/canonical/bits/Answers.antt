-- A NaN is nan, whose pattern the logic writes.
use Rattle.std.proofs.Common.{sym, ap, ◌∙◌}
use lib.Ieee.{binary64, to_bits}
use Rattle.numeric.proofs.NanLaws.{nan_alone, nan-bits}
use Rattle.numeric.proofs.canonical.bits.Goals as goal

pub returns-then-is_nan : goal.returns-then-is_nan
returns-then-is_nan c = sym (ap (to_bits binary64) (nan_alone c.args.x (sym c.is_nan.ensures.value ∙ c.if-is_nan.true)) ∙ nan-bits)
