-- A turn opens at most one group, and at least one is open after it.
use native.Mathlib.Omega.{arith}
use mathlib.Core.Path.{ap}
use Prim.Native.Nat.{ℕ, ◌-◌}
use Rattle.lent.proofs.InPlaceLaws.{place_end}
use Rattle.grouping_marks.specs.Marks.{opened, number_by_mark, group_numbers}
use Rattle.grouping_marks.proofs.MarksLaws.{opened_bounds}
use Rattle.grouping_marks.proofs.PassLaws.{passing_start, passing_turn}
use Rattle.grouping_marks.proofs.group_numbers.Goals as goal

pub loop-mark-init : goal.loop-mark-init
loop-mark-init c = passing_start opened number_by_mark c.args.marks.now c.requires

pub loop-mark-preserved : goal.loop-mark-preserved
loop-mark-preserved c =
    let e = c.opened-count.ensures in
    passing_turn c.loop-mark.invariant (omega arith) (ap (λ (n : ℕ). n - 1) e) e (λ s m. (opened_bounds s m).1.1)

pub returns : goal.returns
unfolding group_numbers
returns c = place_end c.loop-mark.invariant.walk (omega arith)
