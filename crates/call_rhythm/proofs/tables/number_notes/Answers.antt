-- The marks in region 2, the firsts by them, the numbers in their places, and the last number.
use Rattle.call_rhythm.proofs.RegionLaws.{notes_none, marks_put, notes_numbered}
use Rattle.call_rhythm.proofs.tables.number_notes.Goals as goal

pub returns-then-notes-eq0 : goal.returns-then-notes-eq0
returns-then-notes-eq0 c =
    let r = notes_none _ _ _ _ c.requires c.if-notes-eq0.true in
    record { count = r.0; work = r.1 }

pub returns : goal.returns
returns c =
    let apart = c.split_at_mut-objects.ensures in
    let again = c.split_at_mut-firsts.ensures in
    let r =
    notes_numbered _ _ _ _ c.requires _ (marks_put _ _ _ _ c.requires c.mark_intervals.ensures) _ _ apart.front apart.back _ _ again.front again.back _
    c.group_firsts.ensures _
    c.group_numbers.ensures _ c.if-notes-eq0.false c.from.ensures in
    record { count = r.0; work = r.1 }
