-- The sizes of the closed groups stand in front, and the sizes still to store are those of the items left, with `size` items in the open group.
use Prim.Native.Nat.{◌+◌}
use Rattle.grouping_marks.proofs.PassLaws.{Sizes}
use Rattle.grouping_marks.proofs.group_sizes.Given as goal

abbrev pub invariant-loop-mark : goal.invariant-loop-mark
invariant-loop-mark l = Sizes l.fn.marks l.fn.sizes l.sizes l.size l.groups (l.mark-index + 1)
