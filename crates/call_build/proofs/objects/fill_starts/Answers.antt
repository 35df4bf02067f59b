-- Each place takes the start of its object.
use Rattle.std.proofs.Common.{rules}
use Rattle.call_build.specs.Build.{start_at}
use Rattle.call_build.proofs.objects.fill_starts.Goals as goal

pub returns : goal.returns
returns c = c.by_place.ensures (start_at c.args.rate c.args.time.now) (λ i given h e. search rules)
