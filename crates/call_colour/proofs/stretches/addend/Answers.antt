-- The array has a note's value at the places 0 and 1 and -0.0 at 2, which are the kinds.
use lib.Ieee.{nan, neg, of_bits}
use Rattle.numeric.specs.Constants.{minus_zero64}
use Rattle.grouping_chart.proofs.NotesLaws.{by_kind}
use Rattle.call_colour.proofs.stretches.addend.Goals as goal

pub returns : goal.returns
unfolding neg of_bits
returns c = rw c.from.ensures (by_kind c.args.value minus_zero64 nan c.args.kind c.requires)
