-- Each place takes the flag of its pattern.
use borrow.Author.Rules.{rules}
use Rattle.grouping_colour.specs.AlternatingMonoPattern.{coupled_at, coupled}
use Rattle.grouping_colour.proofs.alternating_mono_pattern.flag_coupled.Goals as goal

pub returns : goal.returns
unfolding coupled
returns c =
    let p = c.args.patterns.now in
    rw c.len.ensures at (c.by_place.ensures (coupled_at p.first.now p.second.now p.third.now) (λ i given h e. search rules))
