-- The definition's steps are what the calls promise.
use Rattle.std.proofs.Common.{◌≡◌, ap, ◌∙◌}
use Rattle.evaluator_rhythm.specs.RepeatedInterval.{walk_penalty, newest_first, repeated_interval_penalty}
use Rattle.evaluator_rhythm.specs.passes.Walk.{newest_of, penalty_among}
use Rattle.evaluator_rhythm.proofs.WalkLaws.{walked}
use Rattle.evaluator_rhythm.proofs.repeated_interval_penalty.Goals as goal

pub returns : goal.returns
unfolding repeated_interval_penalty newest_first walk_penalty newest_of
returns c =
    let x = c.args in
    let long : c.walk-long.result ≡ walk_penalty x.threshold 3 (newest_first x.owns) =
    c.walk-long.ensures ∙ ap (penalty_among x.threshold) c.newest.ensures ∙ walked x.threshold 3 (newest_first x.owns)
    in
    rw (c.smaller_of.ensures, c.duration_penalty.ensures, long, c.short_penalty-short.ensures)
