-- The slices that are lent are full of sentinels.
use Rattle.std.proofs.Common.{arith}
use Rattle.vectors.proofs.SentinelLaws.{front_counts}
use Rattle.cases_encode.proofs.EncodeLaws.{made_told}
use Rattle.cases_encode.proofs.call_holds.Goals as goal

pub slice_bounds-lent_holds-end-14 : goal.slice_bounds-lent_holds-end-14
slice_bounds-lent_holds-end-14 c = front_counts _ _ (omega arith)

pub returns : goal.returns
returns c = made_told c.args.room.few (rw (c.places-places.ensures, c.work.ensures) at c.lent_holds.ensures)
