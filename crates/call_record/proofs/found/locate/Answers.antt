-- Each pass finds what the one before left, and the group's objects are a part of the work slice.
use Rattle.std.proofs.Common.{arith}
use Rattle.call_rhythm.proofs.TablesLaws.{notes-lent, numbers_room, noted}
use Rattle.call_record.proofs.LocateLaws.{front_counted, group_there, objects_end, objects_some, objects_started, located, scratch_located, past_located}
use Rattle.call_record.proofs.found.locate.Goals as goal

pub slice_bounds-number_notes-end : goal.slice_bounds-number_notes-end
slice_bounds-number_notes-end c = notes-lent c.requires.tables c.list_notes-m.ensures

pub slice_bounds-number_notes-end-2 : goal.slice_bounds-number_notes-end-2
slice_bounds-number_notes-end-2 c = front_counted c.requires c.list_notes-m.ensures

pub number_notes-groups-requires : goal.number_notes-groups-requires
number_notes-groups-requires c = numbers_room c.requires.tables c.list_notes-m.ensures

pub slice_bounds-reach-end : goal.slice_bounds-reach-end
slice_bounds-reach-end c = notes-lent c.requires.tables c.list_notes-m.ensures

pub slice_bounds-reach-end-2 : goal.slice_bounds-reach-end-2
slice_bounds-reach-end-2 c = front_counted c.requires c.list_notes-m.ensures

pub reach-reached-requires : goal.reach-reached-requires
reach-reached-requires c = group_there c.requires c.list_notes-m.ensures

pub slice_bounds-objects-end : goal.slice_bounds-objects-end
slice_bounds-objects-end c =
    let x = noted c.requires.tables c.list_notes-m.ensures _ (c.number_notes-groups.ensures.count, c.number_notes-groups.ensures.work) in
    objects_end c.requires c.list_notes-m.ensures x c.reach-reached.ensures

pub bounds-start-last : goal.bounds-start-last
bounds-start-last c =
    let x = noted c.requires.tables c.list_notes-m.ensures _ (c.number_notes-groups.ensures.count, c.number_notes-groups.ensures.work) in
    rw c.from-last.ensures
    (objects_started c.requires c.list_notes-m.ensures x c.reach-reached.ensures _
    (omega (arith, objects_some c.requires c.list_notes-m.ensures x c.reach-reached.ensures)))

pub bounds-start-first : goal.bounds-start-first
bounds-start-first c =
    let x = noted c.requires.tables c.list_notes-m.ensures _ (c.number_notes-groups.ensures.count, c.number_notes-groups.ensures.work) in
    rw c.from-first.ensures
    (objects_started c.requires c.list_notes-m.ensures x c.reach-reached.ensures _
    (objects_some c.requires c.list_notes-m.ensures x c.reach-reached.ensures))

pub returns : goal.returns
returns c =
    let x = noted c.requires.tables c.list_notes-m.ensures _ (c.number_notes-groups.ensures.count, c.number_notes-groups.ensures.work) in
    let e = c.list_notes-m.ensures in
    let m = c.reach-reached in
    record {
      found = rw (c.from-first.ensures, c.from-last.ensures) (located c.requires e x m.ensures);
      work = x.memory;
      scratch = scratch_located c.requires e x m.ensures m.auto.deltas;
      rest = past_located c.requires e x m.ensures m.auto.deltas;
    }
