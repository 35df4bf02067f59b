-- A turn goes on with the open group or opens the next; the last one's size is stored behind the loop.
use native.Mathlib.Omega.{arith}
use Prim.Native.Nat.{◌-◌}
use lib.ListN.{length, drop, length-take, length-drop}
use Rattle.grouping_marks.proofs.PassLaws.{sizes_turn, sizes_end, behind_first}
use Rattle.grouping_marks.proofs.group_sizes.Goals as goal

pub loop-mark-preserved : goal.loop-mark-preserved
loop-mark-preserved c =
    let b = behind_first _ _ c.loop-mark-test.true in
    sizes_turn c.loop-mark.invariant _ _ b.0 (rw b.1 at c.place_by_mark-size.ensures) (rw b.1 at c.opens-groups.ensures)

pub returns : goal.returns
returns c =
    let all = length-take (length c.args.marks.now - 1) (drop 1 c.args.marks.now) in
    let r = sizes_end c.loop-mark.invariant (omega (arith, all, length-drop 1 c.args.marks.now)) in record { count = r.0; sizes = r.1 }
