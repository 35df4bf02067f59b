-- The ratios that are made of the deltas, the first before the others; of the built deltas they are the built ratios.
use mathlib.Core.Path.{◌≡◌, refl, sym, ap, ◌∙◌}
use mathlib.Core.List.{List, [], ◌∷◌, append-nil}
use Prim.Native.Nat.{ℕ, zero, suc, ◌+◌, ◌-◌, ◌≤◌, ◌<◌}
use native.Mathlib.Numerals.{add-one}
use native.Mathlib.Omega.{arith}
use borrow.Rule.Slice.PartMut.{mid_of, put_mid}
use lib.ListN.{length, drop, get_or, set, drop_of_length-le}
use lib.Seq.{take_all}
use lib.Ieee.{Float, nan, binary64, div}
use Rattle.lent.specs.Over.{over}
use Rattle.lent.proofs.OverLaws.{drop-over, over-first}
use Rattle.lent.specs.Scan.{tabulate}
use Rattle.lent.proofs.FillLaws.{length-tabulate, get_or-tabulate, tabulate-first, tabulate-agree}
use Rattle.numeric.specs.Constants.{one64}
use Rattle.call_build.specs.Ratio.{nearest_ratio}
use Rattle.call_build.specs.Build.{Raw, delta_at, ratio_at, built_deltas, built_ratios}
use Rattle.call_build.specs.passes.Ratios.{ratio_from, ratios_from}

pub length-ratios : (deltas : List Float) → length (ratios_from deltas) ≡ length deltas
length-ratios deltas = length-tabulate (ratio_from deltas) (length deltas)

-- the ratio of the object after object i
abbrev pub ratio_after : List Float → ℕ → Float
ratio_after deltas i = nearest_ratio (div binary64 (get_or deltas (i + 1) nan) (get_or deltas i nan))

-- the first ratio is stored before those of the objects after it
ratios-parted : (deltas : List Float) (n : ℕ) → tabulate (ratio_from deltas) (suc n) ≡ one64 ∷ tabulate (ratio_after deltas) n
unfolding ratio_from
ratios-parted deltas n =
    tabulate-first (ratio_from deltas) n
    ∙ ap (λ later. one64 ∷ later) (tabulate-agree (λ i. ratio_from deltas (suc i)) (ratio_after deltas) n (λ i h. rw (add-one i) refl))

-- the later elements are written over all that stands behind the first
over_first : (first : Float) (later old : List Float) (k : ℕ) → 0 < length old → k ≡ length (set old 0 first) - 1
    → put_mid 1 k (set old 0 first) (over later (mid_of 1 k (set old 0 first))) ≡ over (first ∷ later) old
over_first first later [] k h e = absurd (omega arith)
over_first first later (x ∷ old) k h e =
    let past : drop k old ≡ [] = drop_of_length-le old (omega arith) in
    rw (over-first first x later old, take_all k old (omega arith), past, append-nil) refl

pub ratios_stored : (deltas old : List Float) {new : List Float} → 0 < length deltas → length deltas ≤ length old
    → let k : ℕ = length (set old 0 one64) - 1 in
    new ≡ over (tabulate (ratio_after deltas) (length deltas - 1)) (mid_of 1 k (set old 0 one64))
    → put_mid 1 k (set old 0 one64) new ≡ over (ratios_from deltas) old
ratios_stored deltas old h r e =
    let n = length deltas - 1 in
    let whole : length deltas ≡ suc n = omega arith in
    let parted : ratios_from deltas ≡ one64 ∷ tabulate (ratio_after deltas) n = ap (tabulate (ratio_from deltas)) whole ∙ ratios-parted deltas n in
    rw (e, parted) (over_first one64 _ old _ (omega arith) refl)

pub none_built : (deltas old : List Float) → length deltas ≡ 0 → old ≡ over (ratios_from deltas) old
none_built deltas old e = sym (drop-over (ratios_from deltas) old 0 (omega (arith, length-ratios deltas)))

module _ (rate : Float) (r : Raw) (n : ℕ) where
  same_ratio : (i : ℕ) → i < n → ratio_from (built_deltas rate r.times n) i ≡ ratio_at rate r i
  unfolding ratio_from ratio_at
  same_ratio zero h = refl
  same_ratio (suc i) h =
      let delta = delta_at rate r.times in
      rw (get_or-tabulate delta n (suc i) nan h, get_or-tabulate delta n i nan (omega arith)) refl

  pub ratios_of_built : ratios_from (built_deltas rate r.times n) ≡ built_ratios rate r n
  ratios_of_built =
      rw (length-tabulate (delta_at rate r.times) n)
      (tabulate-agree (ratio_from (built_deltas rate r.times n)) (ratio_at rate r) n same_ratio)
