-- A slice that is too short, or a place that differs, denies; once every place was passed, all is as it must be.
use Rattle.std.proofs.Common.{arith, rules}
use borrow.Author.Tests.{tests, lt-leb}
use Rattle.std.proofs.lemmas.Iterator.{cases_from_all, YieldsList-from_slice}
use Rattle.std.proofs.lemmas.Iterator.Consumers.{YieldsList-from_enumerate}
use Rattle.std.proofs.lemmas.Option.{unwrap_or-slice_get}
use Rattle.vectors.proofs.HeldLaws.{Same, too_short, length-all, all_told}
use Rattle.vectors.proofs.column.Column.held.Goals as goal

pub returns-then-count-got : goal.returns-then-count-got
returns-then-count-got g c =
    rw (← c.bits-past.ensures)
    (all_told _ _ g.met.T.Place.each_place c.args.got.now _ _ c.args.sentinel _ (omega arith)
    (cases_from_all _ _ _ (Same g.T.Place.bits_of c.args.self.now c.bits-past.result) (λ p. Same g.T.Place.bits_of c.args.self.now c.bits-past.result p → ⊥)
    c.all.ensures.ran (YieldsList-from_enumerate (YieldsList-from_slice c.args.got.now cc) cc)
    (λ x q k. search (rules, tests, unwrap_or-slice_get)) (λ x q k. search (rules, tests, unwrap_or-slice_get))))

pub returns-else-count-got : goal.returns-else-count-got
returns-else-count-got g c =
    let long = length-all _ _ g.met.T.Place.each_place c.args.got.now in
    rw (lt-leb _ _ c.if-count-got.false) (too_short _ _ _ (omega arith))
