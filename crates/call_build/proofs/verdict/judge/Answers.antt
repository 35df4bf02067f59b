-- The tests before the objects tell, or all pass; then the objects that would be built are checked.
use Rattle.std.proofs.Common.{refl, sym, ◌∙◌, rules}
use Rattle.call_build.specs.Lent.{raw_seen}
use Rattle.call_build.proofs.VerdictLaws.{told_first, told_none}
use Rattle.call_build.proofs.verdict.judge.Goals as goal

pub invariant_of-check_objects : goal.invariant_of-check_objects
invariant_of-check_objects c = record {
  as_many_times =
      (told_none c.args.rate (raw_seen c.args.raw) c.args.short refl c.beside_refusal.ensures c.before_objects.ensures c.in_ok-before_objects.was).0;
}

pub returns : goal.returns
returns c =
    c.check_objects.ensures
    ∙ sym (told_none c.args.rate (raw_seen c.args.raw) c.args.short refl c.beside_refusal.ensures c.before_objects.ensures c.in_ok-before_objects.was).1

pub returns-in_err-before_objects : goal.returns-in_err-before_objects
returns-in_err-before_objects c =
    let first = told_first c.args.rate (raw_seen c.args.raw) c.args.short refl c.beside_refusal.ensures c.before_objects.ensures c.in_err-before_objects.was in
    rw first (search rules)
