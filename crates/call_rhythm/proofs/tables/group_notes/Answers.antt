-- Each pass finds what it asks for where those before left it: it writes a region of its own, and the scratch slice is read before it is written over.
use mathlib.Core.Path.{sym}
use lib.Seq.{length-take-le}
use Rattle.call_rhythm.proofs.TablesLaws.{notes-lent, numbers_room, noted, firsts_there, counts_are, work-written, scratch-written}
use Rattle.call_rhythm.proofs.tables.group_notes.Goals as goal

pub slice_bounds-number_notes-end : goal.slice_bounds-number_notes-end
slice_bounds-number_notes-end c =
    notes-lent c.requires c.list_notes-notes.ensures

pub slice_bounds-number_notes-end-2 : goal.slice_bounds-number_notes-end-2
slice_bounds-number_notes-end-2 c =
    sym (length-take-le _ _ (notes-lent c.requires c.list_notes-notes.ensures))

pub number_notes-groups-requires : goal.number_notes-groups-requires
number_notes-groups-requires c =
    numbers_room c.requires c.list_notes-notes.ensures

pub number_groups-patterns-requires : goal.number_groups-patterns-requires
number_groups-patterns-requires c =
    let e = c.number_notes-groups.ensures in
    firsts_there c.requires (noted c.requires c.list_notes-notes.ensures _ (e.count, e.work))

pub returns : goal.returns
returns c =
    let room = c.requires in
    let e = c.number_notes-groups.ensures in
    let n = noted room c.list_notes-notes.ensures _ (e.count, e.work) in
    let f = c.number_groups-patterns.ensures in
    record {
      count = counts_are room n (f.count, (f.work, f.scratch));
      work = work-written room n (f.count, (f.work, f.scratch));
      scratch = scratch-written room n (f.count, (f.work, f.scratch));
    }
