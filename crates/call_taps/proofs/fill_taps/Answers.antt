-- The notes' objects stand in front of the work slice, and the marks behind them; then both work slices are cleared.
use Rattle.std.proofs.Common.{sym}
use Rattle.std.proofs.lemmas.List.{length-take-le}
use Rattle.call_taps.proofs.FilledLaws.{within_front, within_back, notes_known, marks_room, filled_is}
use Rattle.call_taps.proofs.fill_taps.Goals as goal

pub slice_bounds-objects-end : goal.slice_bounds-objects-end
slice_bounds-objects-end c = within_front c.requires c.list_notes-notes.ensures c.split_at_mut-objects.ensures.front c.split_at_mut-objects.ensures.back

pub slice_bounds-objects-end-2 : goal.slice_bounds-objects-end-2
slice_bounds-objects-end-2 c =
    sym (length-take-le _ _ (within_front c.requires c.list_notes-notes.ensures c.split_at_mut-objects.ensures.front c.split_at_mut-objects.ensures.back))

pub slice_bounds-fill_answers-end : goal.slice_bounds-fill_answers-end
slice_bounds-fill_answers-end c =
    within_back c.requires c.list_notes-notes.ensures c.split_at_mut-objects.ensures.front c.split_at_mut-objects.ensures.back

pub slice_bounds-fill_answers-end-2 : goal.slice_bounds-fill_answers-end-2
slice_bounds-fill_answers-end-2 c =
    sym (length-take-le _ _ (within_back c.requires c.list_notes-notes.ensures c.split_at_mut-objects.ensures.front c.split_at_mut-objects.ensures.back))

pub fill_answers-known-requires-clause-known : goal.fill_answers-known-requires-clause-known
fill_answers-known-requires-clause-known c =
    notes_known c.requires c.list_notes-notes.ensures c.split_at_mut-objects.ensures.front c.split_at_mut-objects.ensures.back

pub fill_answers-known-requires-clause-marks_room : goal.fill_answers-known-requires-clause-marks_room
fill_answers-known-requires-clause-marks_room c =
    marks_room c.requires c.list_notes-notes.ensures c.split_at_mut-objects.ensures.front c.split_at_mut-objects.ensures.back

pub returns-clause-filled : goal.returns-clause-filled
returns-clause-filled c =
    let made = c.fill_answers-known.ensures in
    filled_is c.requires c.list_notes-notes.ensures c.split_at_mut-objects.ensures.front c.split_at_mut-objects.ensures.back c.args.s
    _ c.fill_answers-known.auto.marks made.pair made.group c.front.ensures c.front-2.ensures
