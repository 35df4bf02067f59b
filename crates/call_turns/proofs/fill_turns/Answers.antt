-- Each object takes what is told of the notes at its streak's ends, whose numbers stand behind the streaks' tables.
use Rattle.std.proofs.Common.{◌≡◌, ◌*◌, ◌≤◌, ◌∙◌, ap, sym, arith, rules, length, get_or, ◌++◌, take, drop}
use lib.ListN.{length-drop}
use Rattle.lent.specs.Over.{over}
use Rattle.lent.proofs.PieceLaws.{over_pieces, put_pieces}
use Rattle.grouping_chart.specs.Object.{note_before, note_following}
use Rattle.grouping_preprocessor.specs.passes.LookUps.{StreaksOf}
use Rattle.grouping_preprocessor.proofs.LookUpsLaws.{streaks_of}
use Rattle.call_turns.specs.Turns.{note_told, previous_colour_change, next_colour_change, previous_changes, next_changes}
use Rattle.call_turns.specs.passes.Rooms.{note_indices}
use Rattle.call_turns.proofs.NumberLaws.{length-indices}
use Rattle.call_turns.proofs.TurnLaws.{Numbers, numbers_there, firsts_room, lasts_room, last_small, previous_is, next_is}
use Rattle.call_turns.proofs.fill_turns.Goals.{After-number_notes-notes}
use Rattle.call_turns.proofs.fill_turns.Goals as goal

module _ (c : After-number_notes-notes) where
  streaks : StreaksOf c.args.kind.now c.of-of.result
  streaks = streaks_of c.requires.tabled.tables (rw c.split_at_mut-tables.ensures.front at c.of-of.ensures)

  numbered : Numbers c.args.kind.now c.number_notes-notes.new.numbers
  numbered =
      let n = length c.args.kind.now in
      let room : n ≤ length c.split_at_mut-tables.result.1.now =
      omega (
        arith,
        ap length c.split_at_mut-tables.ensures.back,
        length-drop (7 * n) c.args.work.now,
        c.requires.tabled.regions.room,
      ) in
      numbers_there c.split_at_mut-tables.result.1.now room c.number_notes-notes.ensures.numbers

pub by_place-requires-clause-callable : goal.by_place-requires-clause-callable
by_place-requires-clause-callable c = λ i h.
    let x = (goal.at.by_place-requires-clause-callable c).After-number_notes-notes in
    let o = firsts_room (streaks x) (numbered x) i h in
    search rules

pub by_place-requires-2-clause-callable : goal.by_place-requires-2-clause-callable
by_place-requires-2-clause-callable c = λ i h.
    let x = (goal.at.by_place-requires-2-clause-callable c).After-number_notes-notes in
    let o = lasts_room (streaks x) (numbered x) i h in
    let small = last_small (streaks x) (numbered x) i h c.requires.tabled.regions.few in
    search rules

pub returns-clause-previous : goal.returns-clause-previous
unfolding previous_changes
returns-clause-previous c =
    let x = (goal.at.returns-clause-previous c).After-number_notes-notes in
    c.by_place.ensures (λ i. note_told (previous_colour_change c.args.kind.now i))
    (λ i given h p.
    let is : given ≡ note_told (note_before
    (get_or c.number_notes-notes.new.numbers (get_or c.of-of.result.first.now (get_or c.of-of.result.streak.now i 0) 0) 0)) = search rules in
    is ∙ previous_is (streaks x) (numbered x) i h)

pub returns-clause-next : goal.returns-clause-next
unfolding next_changes
returns-clause-next c =
    let x = (goal.at.returns-clause-next c).After-number_notes-notes in
    c.by_place-2.ensures (λ i. note_told (next_colour_change c.args.kind.now i))
    (λ i given h p.
    let is : given ≡ note_told (note_following c.number_notes-notes.result
    (get_or c.number_notes-notes.new.numbers (get_or c.of-of.result.last.now (get_or c.of-of.result.streak.now i 0) 0) 0)) = search rules in
    is ∙ next_is (streaks x) (numbered x) i h _ c.number_notes-notes.ensures.count)

pub returns-clause-work : goal.returns-clause-work
returns-clause-work c =
    let n = length c.args.kind.now in
    let w = c.args.work.now in
    let indices = note_indices c.args.kind.now in
    let long = length-indices c.args.kind.now in
    let numbers = c.number_notes-notes.ensures.numbers ∙ ap (over indices) c.split_at_mut-tables.ensures.back in
    (λ i. c.split_at_mut-tables.ensures.front i ++ numbers i)
    ∙ ap (λ l. take (7 * n) w ++ l) (sym (over_pieces indices (drop (7 * n) w) n long))
    ∙ put_pieces (7 * n) n indices w long
