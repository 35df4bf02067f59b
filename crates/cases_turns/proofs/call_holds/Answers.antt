-- The slices that are lent are full of sentinels.
use Rattle.std.proofs.Common.{arith}
use Rattle.vectors.proofs.SentinelLaws.{front_counts}
use Rattle.cases_turns.proofs.TurnsLaws.{made_told}
use Rattle.cases_turns.proofs.call_holds.Goals as goal

pub slice_bounds-lent_holds-end-6 : goal.slice_bounds-lent_holds-end-6
slice_bounds-lent_holds-end-6 c = front_counts _ _ (omega arith)

pub returns : goal.returns
returns c = made_told c.args.room.few _ (rw (c.places-places.ensures, c.work.ensures) at c.lent_holds.ensures)
