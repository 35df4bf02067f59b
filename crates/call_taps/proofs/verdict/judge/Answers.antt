-- The tests before the objects tell, or all pass; then the lists are of one length, and are checked object by object.
use Rattle.std.proofs.Common.{sym, ◌∙◌, rules}
use Rattle.call_taps.specs.Lent.{taps_seen}
use Rattle.call_taps.proofs.VerdictLaws.{told_first, told_none}
use Rattle.call_taps.proofs.verdict.judge.Goals as goal

pub check_objects-requires : goal.check_objects-requires
check_objects-requires c =
    (told_none (taps_seen c.args.taps) _ c.all_equally_long.ensures c.refusal_beside.ensures c.before_objects.ensures c.in_ok-before_objects.was).0

pub returns : goal.returns
returns c =
    c.check_objects.ensures
    ∙ sym (told_none (taps_seen c.args.taps) _ c.all_equally_long.ensures c.refusal_beside.ensures c.before_objects.ensures c.in_ok-before_objects.was).1

pub returns-in_err-before_objects : goal.returns-in_err-before_objects
returns-in_err-before_objects c =
    let first = told_first (taps_seen c.args.taps) _ c.all_equally_long.ensures c.refusal_beside.ensures c.before_objects.ensures c.in_err-before_objects.was in
    rw first (search rules)
