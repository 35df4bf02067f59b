-- The objects of a stretch and their values: as many of both, of known kinds, and few.
use mathlib.Core.List.{List}
use Prim.Native.Nat.{ℕ, ◌+◌, ◌<◌}
use native.Mathlib.Omega.{arith}
use lib.Ieee.{Float}
use Rattle.lent.specs.Over.{part}
use Rattle.lent.proofs.OverLaws.{length-part, get_or-part}
use Rattle.call_colour.specs.passes.Rooms.{AverageRoom, StretchRoom}

pub part_room : {kinds : List ℕ} {values : List Float} {a n : ℕ} → StretchRoom kinds values a n → AverageRoom (part a n kinds) (part a n values)
part_room {kinds} {values} {a} {n} r =
    let objects = length-part a n kinds r.kinded in
    let here = length-part a n values r.valued in
    record {
      known = λ i h. let k : i < n = omega (arith, objects) in rw (get_or-part a n kinds i 0 k) (r.known (a + i) (omega (arith, r.kinded)));
      same = omega (arith, objects, here);
      few = omega (arith, objects, r.few);
    }
