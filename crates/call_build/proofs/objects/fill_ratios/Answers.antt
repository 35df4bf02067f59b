-- The first ratio is stored before the others, each of which is made of two deltas.
use Rattle.std.proofs.Common.{arith, rules}
use lib.Ieee.{of_bits}
use Rattle.std.proofs.lemmas.Bool.Decides.{nat_tests}
use Rattle.call_build.proofs.BuiltLaws.{ratio_after, ratios_stored, none_built}
use Rattle.call_build.proofs.objects.fill_ratios.Goals as goal

pub returns-then-is_empty : goal.returns-then-is_empty
returns-then-is_empty c = none_built _ _ (grind (arith, nat_tests))

pub returns : goal.returns
unfolding of_bits
returns c =
    ratios_stored c.args.delta.now _ (grind (arith, nat_tests)) c.requires
    (c.by_place.ensures (ratio_after c.args.delta.now) (λ i given h e. search rules))
