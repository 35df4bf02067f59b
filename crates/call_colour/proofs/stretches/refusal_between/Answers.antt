-- A stretch that ends before it begins is refused; any other has as many objects as its ends are apart.
use Rattle.std.proofs.Common.{arith, ap, ◌∙◌, ◌≡◌, ℕ, ◌+◌, ◌-◌}
use Rattle.call_colour.specs.Stretch.{stretch_refusal}
use Rattle.call_colour.proofs.StretchCases.{none_refused}
use Rattle.call_colour.proofs.stretches.refusal_between.Goals as goal

pub returns-then-b-a : goal.returns-then-b-a
returns-then-b-a c = none_refused _ _ _ (omega (arith, c.if-b-a.true))

pub returns : goal.returns
returns c =
    let a = c.args in
    let end : a.a + (a.b - a.a) ≡ a.b = omega (arith, c.if-b-a.false) in
    c.stretch_refusal.ensures ∙ ap (λ (e : ℕ). stretch_refusal a.kind.now a.a e) end
