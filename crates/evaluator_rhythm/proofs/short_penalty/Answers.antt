-- By the test.
use Rattle.std.proofs.Common.{◌∙◌, ap}
use borrow.Author.Tests.{lt-ltb}
use Rattle.evaluator_rhythm.specs.RepeatedInterval.{newest_first, walk_penalty}
use Rattle.evaluator_rhythm.specs.passes.Walk.{newest_of, penalty_among}
use Rattle.evaluator_rhythm.proofs.WalkLaws.{walked}
use Rattle.evaluator_rhythm.proofs.short_penalty.Goals as goal

pub returns-then-notes-lt6 : goal.returns-then-notes-lt6
unfolding newest_first walk_penalty newest_of
returns-then-notes-lt6 c =
    rw (lt-ltb c.args.notes 6 c.if-notes-lt6.true)
    (c.walk.ensures ∙ ap (penalty_among c.args.threshold) c.newest.ensures ∙ walked c.args.threshold 4 (newest_first c.args.owns))
