-- A turn adds one object's value, and counts it where it is a note.
use Rattle.std.proofs.Common.{◌≡◌, ◌<◌, ap, ◌∙◌, rules, refl}
use native.Mathlib.Omega.{arith}
use lib.ListN.{length, get_or, length-append}
use lib.Ieee.{nan, of_bits}
use Rattle.std.proofs.lemmas.Slice.Zip.{zip_turn, zip_end}
use Rattle.call_colour.proofs.TurnLaws.{none_summed, summed_turn, averaged}
use Rattle.call_colour.proofs.stretches.average.Goals as goal

pub loop-k-init : goal.loop-k-init
unfolding of_bits
loop-k-init c = none_summed _ _

pub loop-k-preserved : goal.loop-k-preserved
loop-k-preserved c =
    let pairs = c.into_iter-k-iterator.result in
    let ks = pairs.a.rest.now in
    let vs = pairs.b.rest.now in
    let i = length c.loop-k.yielded in
    let t = zip_turn ks vs c.loop-k.yielded pairs _ c.next.new.self _ refl refl c.loop-k.yielded_by _ c.in-Some.is c.next.ensures.steps in
    let kinds : ks ≡ c.args.kind.now = search rules in
    let values : vs ≡ c.args.value.now = search rules in
    let here : i < length c.args.kind.now = rw kinds at t.0 in
    let kind : c.in-Some.k.now ≡ get_or c.args.kind.now i 0 = t.2 0 ∙ ap (λ l. get_or l i 0) kinds in
    let value : c.in-Some.v.now ≡ get_or c.args.value.now i nan = t.3 nan ∙ ap (λ l. get_or l i nan) values in
    rw (length-append c.loop-k.yielded, c.from-notes.ensures)
    (summed_turn c.loop-k.invariant c.is_note.result c.addend-sum.result here c.requires.same (rw kind at c.is_note.ensures)
    (rw (kind, value) at c.addend-sum.ensures))

pub returns : goal.returns
returns c =
    let pairs = c.into_iter-k-iterator.result in
    let ks = pairs.a.rest.now in
    let vs = pairs.b.rest.now in
    let t = zip_end ks vs c.loop-k.yielded pairs _ c.next.new.self _ refl refl c.loop-k.yielded_by c.in-None.is c.next.ensures.steps in
    let kinds : ks ≡ c.args.kind.now = search rules in
    let values : vs ≡ c.args.value.now = search rules in
    averaged c.loop-k.invariant (omega (arith, t, ap length kinds, ap length values, c.requires.same))
