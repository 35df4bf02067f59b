-- The first answer is what stands in region 2; then each number there is looked up in region 3, and the second answer is what stands there.
use Rattle.std.proofs.Common.{arith, get_or, rules}
use Rattle.call_rhythm.specs.passes.Tables.{note_groups, note_patterns}
use Rattle.call_rhythm.proofs.AnswerLaws.{notes-most, groups-lent, numbers_below, region_is, region_back}
use Rattle.call_rhythm.proofs.spread.fill_answers.Goals as goal

pub overflow_add-numbers : goal.overflow_add-numbers
overflow_add-numbers c = omega (arith, notes-most c.requires, c.requires)

pub slice_bounds-numbers-end : goal.slice_bounds-numbers-end
slice_bounds-numbers-end c = omega (arith, notes-most c.requires, c.requires, c.split_at_mut-notes.ensures.front_len)

pub look_up-requires : goal.look_up-requires
look_up-requires c = numbers_below c.requires c.split_at_mut-notes.ensures.front c.split_at_mut-notes.ensures.back

pub returns : goal.returns
returns c =
    let f = c.split_at_mut-notes.ensures.front in
    let b = c.split_at_mut-notes.ensures.back in
    let kinds = c.args.kind.now in
    let groups = note_groups kinds c.args.k c.args.work.now in
    let patterns = note_patterns kinds c.args.k c.args.work.now in
    record {
      group = c.spread.ensures (λ j. get_or groups j 0) (λ j given h e. rw (← groups-lent c.requires f b) (search rules));
      pattern = c.spread-2.ensures (λ j. get_or patterns j 0) (λ j given h e. rw (← region_is c.requires f b c.look_up.ensures) (search rules));
      work = region_back c.requires f b c.look_up.ensures;
    }
