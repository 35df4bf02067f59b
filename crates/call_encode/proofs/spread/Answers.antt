-- The front of a slice that was looked up is what the next look-up goes by. The patterns are looked up by all streaks, however they are taken.
use Rattle.std.proofs.Common.{refl, rules, take_all}
use Rattle.lent.proofs.FillLaws.{as_wide, length-gathered}
use Rattle.call_encode.proofs.SpreadLaws.{gathered_front}
use Rattle.call_encode.proofs.spread.Goals as goal

pub gather-requires-3-clause-inside : goal.gather-requires-3-clause-inside
gather-requires-3-clause-inside c =
    rw (gathered_front _ c.args.tables.streak.now _ (search (rules, take_all)) refl c.gather-2.ensures) c.requires.linked.pattern_place

pub gather-requires-4-clause-inside : goal.gather-requires-4-clause-inside
gather-requires-4-clause-inside c =
    rw (gathered_front _ c.args.tables.streak.now _ (search (rules, take_all)) refl c.gather-2.ensures) c.requires.linked.hit

pub gather-requires-5-clause-inside : goal.gather-requires-5-clause-inside
gather-requires-5-clause-inside c =
    let p = gathered_front _ c.args.tables.streak.now _ (search (rules, take_all)) refl c.gather-2.ensures in
    rw (gathered_front _ _ _ refl (length-gathered _ _) (rw p at c.gather-4.ensures)) c.requires.linked.interval

pub returns-clause-pattern_place : goal.returns-clause-pattern_place
returns-clause-pattern_place c =
    rw (gathered_front _ c.args.tables.streak.now _ (search (rules, take_all)) refl c.gather-2.ensures) at (as_wide _ _ c.gather-3.ensures)

pub returns-clause-hit : goal.returns-clause-hit
returns-clause-hit c =
    rw (gathered_front _ c.args.tables.streak.now _ (search (rules, take_all)) refl c.gather-2.ensures) at (as_wide _ _ c.gather-4.ensures)

pub returns-clause-interval : goal.returns-clause-interval
returns-clause-interval c =
    let p = gathered_front _ c.args.tables.streak.now _ (search (rules, take_all)) refl c.gather-2.ensures in
    rw (gathered_front _ _ _ refl (length-gathered _ _) (rw p at c.gather-4.ensures)) at (as_wide _ _ c.gather-5.ensures)
