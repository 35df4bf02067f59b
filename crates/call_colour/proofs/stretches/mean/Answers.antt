-- `mean` has what `average` asks: the objects of the stretch are as many as their values, and their kinds are known.
use Rattle.call_colour.proofs.PartLaws.{part_room}
use Rattle.call_colour.proofs.stretches.mean.Goals as goal

pub average-requires : goal.average-requires
average-requires c = rw (c.objects_of.ensures, c.objects_of-2.ensures) (part_room c.requires)
