-- Each place takes the second length of its pattern.
use borrow.Author.Rules.{rules}
use Rattle.grouping_hits.specs.RepeatingHitPatterns.{second_at, second_lengths}
use Rattle.grouping_hits.proofs.second_lengths.Goals as goal

pub returns : goal.returns
unfolding second_lengths
returns c = c.by_place.ensures (second_at c.args.lengths.now c.args.marks.now) (λ i given h e. search rules)
