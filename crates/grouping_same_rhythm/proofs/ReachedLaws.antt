-- The memory of a reached group: what `reach` writes, it writes over the group's own places, and these are as many as the group has notes.
use mathlib.Core.Path.{◌≡◌, ap, ◌∙◌}
use mathlib.Core.List.{List, []}
use Prim.Native.Nat.{ℕ, ◌+◌, ◌-◌, ◌≤◌}
use native.Mathlib.Omega.{arith}
use lib.ListN.{length, get_or}
use lib.Ieee.{Float}
use Rattle.lent.specs.Over.{part}
use Rattle.lent.proofs.OverLaws.{length-part}
use Rattle.grouping_marks.specs.Parted.{parted}
use Rattle.grouping_normalizer.specs.Normalizer.{distinct_in_front}
use Rattle.grouping_normalizer.proofs.DistinctLaws.{length_left}
use Rattle.grouping_interval.specs.IntervalGrouping.{interval_marks}
use Rattle.grouping_same_rhythm.specs.passes.Owns.{ReachedIs}
use Rattle.grouping_same_rhythm.specs.declared.owns.Reached.{Reached}

module _ {margin : Float} {deltas₀ deltas : List Float} {g : ℕ} {r : Reached} (x : ReachedIs margin deltas₀ deltas g r) where
  within : r.at + (r.end - r.at) ≤ length deltas₀
  within = omega (arith, x.from, x.upto)

  -- the lent part has a place for each note of the group, whatever list has an item for each note
  pub part-notes : (xs : List ℕ) → length xs ≡ length deltas₀ → length (get_or (parted (interval_marks margin deltas₀) xs) g []) ≡ r.end - r.at
  part-notes xs l = ap length (x.notes xs l) ∙ length-part r.at (r.end - r.at) xs (omega (arith, within))

  -- and what is left there takes as many
  pub part_long : length (distinct_in_front (part r.at (r.end - r.at) deltas₀)) ≡ r.end - r.at
  part_long = length_left (part r.at (r.end - r.at) deltas₀) ∙ length-part r.at (r.end - r.at) deltas₀ within
