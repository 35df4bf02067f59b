-- Each call of the closure gives the value.
use Rattle.std.proofs.Common.{◌≡◌, refl, ap, ◌∙◌, replicate, length, rules}
use Rattle.std.proofs.lemmas.List.{length-take-le, length-replicate}
use Rattle.lent.specs.Over.{over}
use Rattle.lent.proofs.FillLaws.{replicate-from_calls}
use Rattle.lent.proofs.fill.front.Goals as goal

pub returns : goal.returns
unfolding over
returns g c =
    let n = c.args.n in
    let v = c.args.value in
    let s = c.args.s.now in
    let long : length c.fill_with.new.self ≡ n = c.fill_with.ensures.len ∙ length-take-le n s c.requires in
    let values : c.fill_with.new.self ≡ replicate n v =
    replicate-from_calls _ v _ (λ x f' k. (search rules, search rules)) _ _ c.fill_with.ensures.ran.1 ∙ ap (λ m. replicate m v) long in
    rw (values, length-replicate n v) refl
