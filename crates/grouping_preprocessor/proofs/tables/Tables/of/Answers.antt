-- The streaks' tables, and each other one a part of the work slice, as code lends one.
use Rattle.std.proofs.Common.{◌*◌}
use Rattle.lent.proofs.OverLaws.{lent-part}
use Rattle.grouping_preprocessor.proofs.tables.Tables.of.Goals as goal

pub returns : goal.returns
returns c =
    let n = c.args.n in
    let k = c.args.levels in
    let w = c.args.work.now in
    record {
      streak = c.of-streaks.ensures.streak;
      pattern = lent-part (3 * n) k.streaks w;
      streak_place = lent-part (4 * n) k.streaks w;
      hit = lent-part n k.patterns w;
      pattern_place = lent-part (2 * n) k.patterns w;
      interval = lent-part (7 * n) k.hits w;
      first = c.of-streaks.ensures.first;
    }
