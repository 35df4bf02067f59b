-- The objects of both notes are the chart's.
use Rattle.std.proofs.Common.{◌∙◌}
use Rattle.call_taps.proofs.GroupsLaws.{low_there, high_there, pair_next, pair_last}
use Rattle.call_taps.proofs.groups.class_at.Goals as goal

pub class-requires-clause-first_low : goal.class-requires-clause-first_low
class-requires-clause-first_low c = low_there c.requires.known 0 _ c.requires.inside

pub class-requires-clause-first_high : goal.class-requires-clause-first_high
class-requires-clause-first_high c = high_there c.requires.known 0 _ c.requires.inside

pub class-requires-clause-second_low : goal.class-requires-clause-second_low
class-requires-clause-second_low c = low_there c.requires.known 0 _ c.if-note-objects.true

pub class-requires-clause-second_high : goal.class-requires-clause-second_high
class-requires-clause-second_high c = high_there c.requires.known 0 _ c.if-note-objects.true

pub returns-then-note-objects : goal.returns-then-note-objects
returns-then-note-objects c = c.class.ensures ∙ pair_next c.requires.known c.args.margin c.args.note c.if-note-objects.true

pub returns-else-note-objects : goal.returns-else-note-objects
returns-else-note-objects c = pair_last c.requires.known c.args.margin c.args.note c.if-note-objects.false
