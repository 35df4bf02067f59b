-- The marks that are passed have given place to the places; `before` items of the open group are passed.
use Prim.Native.Nat.{◌+◌}
use Rattle.grouping_marks.specs.Marks.{place_by_mark}
use Rattle.grouping_marks.proofs.PassLaws.{Passing}
use Rattle.grouping_marks.proofs.group_places.Given as goal

abbrev pub invariant-loop-mark : goal.invariant-loop-mark
invariant-loop-mark l = Passing (λ p m. place_by_mark p m + 1) place_by_mark l.fn.marks l.marks l.before l.mark-index
