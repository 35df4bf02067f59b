-- A turn stores what f gives for place i.
use Rattle.std.proofs.Common.{◌<◌, sym, ◌∙◌, arith}
use Rattle.lent.proofs.FillLaws.{fill_start_front, fill_turn_front, fill_end_front, length-tabulate, get_or-tabulate}
use Rattle.lent.proofs.fill.by_place.Goals as goal

pub loop-i-init : goal.loop-i-init
loop-i-init g c value gives = fill_start_front _ _ _ (length-tabulate value c.args.n) c.requires.room

pub loop-i-preserved : goal.loop-i-preserved
loop-i-preserved g c value gives =
    let given = c.f.result in
    let inside : c.loop-i.i < c.args.n = omega (arith, c.loop-i-test.true) in
    fill_turn_front given (c.loop-i.invariant value gives) inside
    (gives c.loop-i.i given inside c.f.ensures ∙ sym (get_or-tabulate value c.args.n c.loop-i.i given inside))

pub returns : goal.returns
returns g c value gives = fill_end_front (c.loop-i.invariant value gives) (omega (arith, c.loop-i-test.false))
