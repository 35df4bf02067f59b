-- Each place takes the mark of its streak.
use borrow.Author.Rules.{rules}
use Rattle.grouping_colour.specs.AlternatingMonoPattern.{opens_pattern, pattern_marks}
use Rattle.grouping_colour.proofs.alternating_mono_pattern.mark_patterns.Goals as goal

pub returns : goal.returns
unfolding pattern_marks
returns c = c.by_place.ensures (opens_pattern c.args.lengths.now) (λ i given h e. search rules)
