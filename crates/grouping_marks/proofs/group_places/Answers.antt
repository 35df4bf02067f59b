-- A turn passes one item of the open group, or the first of the next.
use native.Mathlib.Omega.{arith}
use mathlib.Core.Path.{ap}
use Prim.Native.Nat.{ℕ, ◌+◌}
use Rattle.lent.proofs.InPlaceLaws.{place_end}
use Rattle.grouping_marks.specs.Marks.{place_by_mark, group_places}
use Rattle.grouping_marks.proofs.MarksLaws.{place_le}
use Rattle.grouping_marks.proofs.PassLaws.{passing_start, passing_turn}
use Rattle.grouping_marks.proofs.group_places.Goals as goal

pub loop-mark-init : goal.loop-mark-init
loop-mark-init c = passing_start (λ p m. place_by_mark p m + 1) place_by_mark c.args.marks.now c.requires

pub loop-mark-preserved : goal.loop-mark-preserved
loop-mark-preserved c =
    let e = c.place_by_mark.ensures in
    passing_turn c.loop-mark.invariant (omega arith) e (ap (λ (n : ℕ). n + 1) e) (λ s m. omega (arith, place_le s m))

pub returns : goal.returns
unfolding group_places
returns c = place_end c.loop-mark.invariant.walk (omega arith)
