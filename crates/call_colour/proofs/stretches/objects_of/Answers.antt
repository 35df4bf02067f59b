-- The first n of what is left from a place on are the part that begins there.
use Rattle.std.proofs.Common.{ap, ◌∙◌, ◌-◌, arith}
use lib.ListN.{length, take, drop, length-drop}
use lib.Seq.{take_all}
use Rattle.lent.proofs.PieceLaws.{part_pieces}
use Rattle.call_colour.proofs.stretches.objects_of.Goals as goal

pub returns : goal.returns
returns g c =
    let a = c.args in
    let all = take_all (length a.items.now - a.offset) (drop a.offset a.items.now) (omega (arith, length-drop a.offset a.items.now)) in
    ap (take a.n) all ∙ part_pieces a.offset a.n a.items.now
