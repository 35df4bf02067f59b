-- The slices that are lent are full of sentinels.
use Rattle.std.proofs.Common.{arith}
use Rattle.vectors.proofs.SentinelLaws.{front_counts}
use Rattle.cases_lesson.proofs.LessonLaws.{made_told}
use Rattle.cases_lesson.proofs.filled_hold.Goals as goal

pub slice_bounds-lent_holds-end-8 : goal.slice_bounds-lent_holds-end-8
slice_bounds-lent_holds-end-8 c = front_counts _ _ (omega arith)

pub returns : goal.returns
returns c =
    made_told c.args.room.few c.requires _ _ _ _ _
    (rw (c.places-places.ensures, c.pair_count.ensures.count, c.work.ensures) at c.lent_holds.ensures)
