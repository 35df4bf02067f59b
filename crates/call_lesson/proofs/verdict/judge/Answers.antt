-- `judge` meets its contract: each part that refuses ends the verdict, and the pairs decide last.
use Rattle.std.proofs.Common.{sym, ◌∙◌, rules}
use Rattle.grouping_chart.specs.Lent.{seen}
use Rattle.grouping_chart.proofs.AcceptedLaws.{accepted_good, both_passed}
use Rattle.call_lesson.specs.Lent.{stretches_seen}
use Rattle.call_lesson.proofs.VerdictLaws.{chart-first, set-next, pairs-last, counted}
use Rattle.call_lesson.proofs.verdict.judge.Goals as goal

pub returns-in_err-check : goal.returns-in_err-check
returns-in_err-check c =
    let a = c.args in
    let told = rw c.beside.ensures at c.check.ensures in
    let e = chart-first _ a.chart.kind.now (stretches_seen a.marked) (sym told ∙ c.in_err-check.was) in
    rw e (search rules)

pub returns-in_err-set_refusal : goal.returns-in_err-set_refusal
returns-in_err-set_refusal c =
    let a = c.args in
    let told = rw c.beside.ensures at c.check.ensures in
    let e = set-next _ a.chart.kind.now (stretches_seen a.marked) (sym told ∙ c.in_ok-check.was) (sym c.set_refusal.ensures ∙ c.in_err-set_refusal.was) in
    rw e (search rules)

pub check_pairs-requires : goal.check_pairs-requires
check_pairs-requires c =
    let good = accepted_good (seen c.args.chart) _ (sym c.check.ensures ∙ c.in_ok-check.was) in
    counted (stretches_seen c.args.marked) (both_passed _ _ (sym c.beside.ensures ∙ good.room)).0

pub returns : goal.returns
returns c =
    let a = c.args in
    let told = rw c.beside.ensures at c.check.ensures in
    c.check_pairs.ensures
    ∙ sym (pairs-last _ a.chart.kind.now (stretches_seen a.marked) (sym told ∙ c.in_ok-check.was) (sym c.set_refusal.ensures ∙ c.in_ok-set_refusal.was))
