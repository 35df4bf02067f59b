-- The last items fill their slice, so the first items are found by all of it.
use Rattle.std.proofs.Common.{refl}
use Rattle.grouping_marks.proofs.StoreLaws.{numbers_inside, lasts_whole, lasts_small}
use Rattle.grouping_marks.proofs.ends.group_ends.Goals as goal

pub last_items-requires-clause-inside : goal.last_items-requires-clause-inside
last_items-requires-clause-inside c = numbers_inside c.requires.numbered.by

pub first_items-requires-clause-items : goal.first_items-requires-clause-items
first_items-requires-clause-items c =
    let b = c.requires.numbered.by in
    lasts_small b c.requires.few (lasts_whole b c.args.lasts.now refl (c.last_items.ensures _ b.are))

pub returns-clause-lasts : goal.returns-clause-lasts
returns-clause-lasts c marks b = lasts_whole b c.args.lasts.now refl (c.last_items.ensures marks b.are)

pub returns-clause-firsts : goal.returns-clause-firsts
returns-clause-firsts c marks b = c.first_items.ensures marks (lasts_whole b c.args.lasts.now refl (c.last_items.ensures marks b.are))
