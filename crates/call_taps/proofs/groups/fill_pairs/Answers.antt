-- Each note has the class of it and the next.
use Rattle.std.proofs.Common.{rules}
use Rattle.call_taps.specs.Taps.{class_at, pairs_of}
use Rattle.call_taps.specs.Lent.{taps_seen}
use Rattle.call_taps.proofs.GroupsLaws.{note_there}
use Rattle.call_taps.proofs.groups.fill_pairs.Goals as goal

pub spread-requires-clause-callable : goal.spread-requires-clause-callable
spread-requires-clause-callable c = λ j h. let there = note_there c.requires.known j h in search rules

pub returns : goal.returns
unfolding pairs_of
returns c = c.spread.ensures (class_at c.args.margin (taps_seen c.args.taps)) (λ j given h e. search rules)
