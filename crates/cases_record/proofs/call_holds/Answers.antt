-- The slices that are lent are full of sentinels, and the starts and deltas are read from the body.
use Rattle.std.proofs.Common.{arith}
use Rattle.vectors.proofs.SentinelLaws.{front_counts}
use Rattle.cases_record.proofs.RecordLaws.{made_told}
use Rattle.cases_record.proofs.call_holds.Goals as goal

pub returns : goal.returns
returns c = made_told c.args.room.few _ c.read_times.ensures (rw (c.places.ensures, c.work.ensures) at c.lent_holds.ensures)

pub slice_bounds-lent_holds-end-2 : goal.slice_bounds-lent_holds-end-2
slice_bounds-lent_holds-end-2 c = front_counts _ _ (omega arith)
