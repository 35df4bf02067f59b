-- Each place takes the delta of its object.
use Rattle.std.proofs.Common.{rules}
use Rattle.call_build.specs.Build.{delta_at}
use Rattle.call_build.proofs.objects.fill_deltas.Goals as goal

pub returns : goal.returns
returns c = c.by_place.ensures (delta_at c.args.rate c.args.time.now) (λ i given h e. search rules)
