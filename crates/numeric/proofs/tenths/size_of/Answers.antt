-- The fields of the bit pattern are the size.
use Rattle.std.proofs.Common.{sym, subst}
use lib.Dec.{T}
use Rattle.numeric.proofs.tenths.Size.{range_within, scaled_low, scaled_high, exp_room}
use Rattle.numeric.proofs.tenths.size_of.Goals as goal

pub returns-then-field-eq0 : goal.returns-then-field-eq0
returns-then-field-eq0 c = scaled_low c.args.x (subst T (sym c.well_formed.0.1) tt) (range_within c.args.x c.requires) c.if-field-eq0.true

pub overflow_sub-result : goal.overflow_sub-result
overflow_sub-result c = exp_room c.args.x (subst T (sym c.well_formed.0.1) tt) (range_within c.args.x c.requires) c.if-field-eq0.false

pub returns : goal.returns
returns c = scaled_high c.args.x (subst T (sym c.well_formed.0.1) tt) (range_within c.args.x c.requires) c.if-field-eq0.false
