-- The set in front has the middle where it holds x; else it is looked for among the others.
use Rattle.std.proofs.Common.{◌<◌, length, sym, ◌∙◌, rules, tests}
use Rattle.grouping_normalizer.proofs.SetLaws.{middle_found}
use Rattle.grouping_normalizer.proofs.middle_of.Goals as goal

pub returns-then-is_held : goal.returns-then-is_held
returns-then-is_held c =
    let h : 0 < length c.loop-rest.rest.now = search (rules, tests) in
    c.middle_value.ensures
    ∙ sym (middle_found c.args.x h c.set_len.ensures c.split_at.ensures.front c.split_at.ensures.back (sym c.is_held.ensures ∙ c.if-is_held.true))
    ∙ c.loop-rest.invariant
