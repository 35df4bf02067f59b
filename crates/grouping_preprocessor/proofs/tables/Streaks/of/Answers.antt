-- Each table is a part of the work slice, as code lends one.
use Rattle.std.proofs.Common.{◌*◌}
use Rattle.lent.proofs.OverLaws.{lent-part, lent_front}
use Rattle.grouping_preprocessor.proofs.tables.Streaks.of.Goals as goal

pub returns : goal.returns
returns c =
    let n = c.args.n in
    let k = c.args.levels in
    let w = c.args.work.now in
    record { streak = lent_front n w; first = lent-part (5 * n) k.streaks w; last = lent-part (6 * n) k.streaks w }
