-- The slices that are lent are full of sentinels, and the starts and deltas are read from the body.
use Rattle.std.proofs.Common.{arith}
use Rattle.vectors.proofs.SentinelLaws.{front_counts}
use Rattle.cases_rhythm.proofs.RhythmLaws.{made_told}
use Rattle.cases_rhythm.proofs.call_holds.Goals as goal

pub slice_bounds-lent_holds-end-6 : goal.slice_bounds-lent_holds-end-6
slice_bounds-lent_holds-end-6 c = front_counts _ _ (omega arith)

pub returns : goal.returns
returns c = made_told c.args.room.few _ c.read_times.ensures (rw (c.places-places.ensures, c.work.ensures) at c.lent_holds.ensures)
