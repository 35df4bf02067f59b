-- Where an open pair is looked at the groups are not known; else the marks become the notes' groups.
use Rattle.std.proofs.Common.{◌≡◌, ◌<◌, length, get_or, arith, sym, ap, ◌∙◌, rules}
use Rattle.grouping_marks.specs.Marks.{group_numbers}
use Rattle.call_taps.specs.Taps.{class_of, tap_marks}
use Rattle.call_taps.specs.Lent.{taps_seen}
use Rattle.call_taps.proofs.GroupsLaws.{place_there, note_there, pair_told, open_is, groups_open, groups_sure}
use Rattle.call_taps.proofs.GroupsLaws.{objects_few, marks_are, marks_long, numbers_long, groups_in, groups_of}
use Rattle.call_taps.proofs.groups.fill_answers.Goals.{After-mark_classes}
use Rattle.call_taps.proofs.groups.fill_answers.Goals as goal

pub looks_at-requires : goal.looks_at-requires
looks_at-requires c = record {
  callable = λ z i h. let there = place_there c.requires.known c.args.pair.now c.requires.pair_room z i (omega (arith, h)) in search rules;
}

pub returns-then-looks_at : goal.returns-then-looks_at
returns-then-looks_at c =
    let margin = c.args.margin in
    let t = taps_seen c.args.taps in
    let read = pair_told c.requires.known margin _ c.requires.pair_room c.fill_pairs.ensures in
    let told = c.looks_at.ensures (class_of margin t) (λ z i given h e. let r = read z i h in search rules) in
    let o = groups_open c.requires.known margin c.args.group.now (sym (open_is c.requires.known margin told) ∙ c.if-looks_at.true) in
    record { known = o.0; pair = c.fill_pairs.ensures; group = o.1 }

pub mark_classes-requires-clause-callable : goal.mark_classes-requires-clause-callable
mark_classes-requires-clause-callable c = λ z i h.
    let there = place_there c.requires.known c.args.pair.now c.requires.pair_room z i (omega (arith, h)) in
    search rules

-- the marks are the definition's, and so are the numbers in their places
marked : (c : After-mark_classes) → let a = c.args in c.mark_classes.new.marks ≡ tap_marks a.margin (taps_seen a.taps)
marked c =
    let a = c.args in
    let read = pair_told c.requires.known a.margin _ c.requires.pair_room c.fill_pairs.ensures in
    c.mark_classes.ensures (class_of a.margin (taps_seen a.taps)) (λ z i given h e. let r = read z i h in search rules)
    ∙ marks_are c.requires.known a.margin a.marks.now c.requires.marks_room

pub group_numbers-requires : goal.group_numbers-requires
group_numbers-requires c =
    let k = c.requires.known in
    let m = marked (goal.at.group_numbers-requires c).After-mark_classes in
    omega (arith, ap length m, marks_long k c.args.margin, objects_few k, k.few)

pub spread-requires-clause-callable : goal.spread-requires-clause-callable
spread-requires-clause-callable c = λ j h.
    let k = c.requires.known in
    let m = c.group_numbers.ensures ∙ ap group_numbers (marked (goal.at.spread-requires-clause-callable c).After-mark_classes) in
    let there : j < length c.group_numbers.new.marks = omega (arith, note_there k j h, ap length m, numbers_long k c.args.margin) in
    let few : j < 65536 = omega (arith, note_there k j h, objects_few k, k.few) in
    search rules

pub returns : goal.returns
returns c =
    let a = c.args in
    let k = c.requires.known in
    let m = c.group_numbers.ensures ∙ ap group_numbers (marked (goal.at.returns c).After-mark_classes) in
    let read = pair_told k a.margin _ c.requires.pair_room c.fill_pairs.ensures in
    let told = c.looks_at.ensures (class_of a.margin (taps_seen a.taps)) (λ z i given h e. let r = read z i h in search rules) in
    let numbers = group_numbers (tap_marks a.margin (taps_seen a.taps)) in
    let group = c.spread.ensures (λ j. get_or numbers j 0) (λ j given h e. rw (← m) (search rules)) in
    let s =
    groups_sure k a.margin a.group.now (sym (open_is k a.margin told) ∙ c.if-looks_at.false) (groups_in k a.margin (c.count_of.ensures _ m))
    (groups_of k a.margin a.group.now group) in
    record { known = s.0; pair = c.fill_pairs.ensures; group = s.1 }
