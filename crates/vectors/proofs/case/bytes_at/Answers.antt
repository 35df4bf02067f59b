-- Each place takes the byte that stands there.
use Rattle.std.proofs.Common.{rules, get_or, ◌+◌, ◌∙◌}
use Rattle.vectors.proofs.MadeLaws.{made_by_place, bytes-made}
use Rattle.vectors.proofs.case.bytes_at.Goals as goal

pub returns : goal.returns
returns g c =
    made_by_place _ _ _ (λ k. get_or c.args.s.now (c.args.at + k) 0) (λ i given q e. search rules) _ c.from_fn.ensures.items
    ∙ bytes-made c.args.s.now c.args.at _
