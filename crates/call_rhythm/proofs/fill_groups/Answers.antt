-- The answers from the tables, which are then cleared.
use Rattle.call_rhythm.proofs.AnswerLaws.{tables_there, filled_is}
use Rattle.call_rhythm.proofs.fill_groups.Goals as goal

pub fill_answers-requires : goal.fill_answers-requires
fill_answers-requires c =
    let t = c.group_notes-k.ensures in
    tables_there c.args.s c.requires t.count t.work t.scratch

pub returns-clause-filled : goal.returns-clause-filled
returns-clause-filled c =
    let t = c.group_notes-k.ensures in
    let e = c.fill_answers.ensures in
    filled_is c.args.s c.requires t.count t.work t.scratch e.group e.pattern e.work c.front.ensures c.front-2.ensures
