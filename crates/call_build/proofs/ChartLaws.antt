-- The built chart, object by object: its lists are of one length, no ratio is refused, and an object is refused as its raw object says.
use mathlib.Core.Path.{◌≡◌, sym, ◌∙◌}
use mathlib.Core.Bool.{Bool, true, ◌&&◌}
use Prim.Native.Nat.{ℕ, zero, suc, ◌+◌, ◌<◌}
use native.Mathlib.Nat.{add_comm}
use native.Mathlib.Omega.{arith}
use lib.ListN.{length, drop, get_or, length-drop}
use lib.Seq.{get_or-drop}
use lib.Ieee.{Float, nan, le}
use Rattle.std.proofs.lemmas.Bool.{and_parts}
use Rattle.lent.proofs.FillLaws.{length-tabulate, get_or-tabulate}
use Rattle.numeric.specs.Constants.{one64}
use Rattle.grouping_chart.specs.Chart.{size}
use Rattle.grouping_chart.specs.Refusal.{Check, kind_good, time_good, ratio_good, accepted, object_refusal, objects_verdict}
use Rattle.grouping_chart.specs.passes.Good.{SameLengths, all, all_good}
use Rattle.grouping_chart.proofs.RangeLaws.{good_ratio}
use Rattle.grouping_chart.proofs.RefusalLaws.{refusal_ratio}
use Rattle.grouping_chart.proofs.AllLaws.{each_all}
use Rattle.grouping_chart.proofs.AcceptedLaws.{lists_good, all_good_accepted}
use Rattle.call_build.specs.Build.{Raw, start_at, delta_at, ratio_at, built_size, built_starts, built_deltas, built_chart}
use Rattle.call_build.proofs.RatioLaws.{nearest_common, common_good}

one_good : ratio_good one64 ≡ true
unfolding le
one_good = good_ratio one64 tt tt

ratio_good_lem : (rate : Float) (r : Raw) (i : ℕ) → ratio_good (ratio_at rate r i) ≡ true
unfolding ratio_at
ratio_good_lem rate r zero = one_good
ratio_good_lem rate r (suc i) = common_good (nearest_common _)

module _ (rate : Float) (r : Raw) where
  pub built-size : size (built_chart rate r) ≡ built_size r
  unfolding built_chart
  built-size = length-drop 2 r.kinds

  pub built-lengths : SameLengths (size (built_chart rate r)) (built_chart rate r).starts (built_chart rate r).deltas (built_chart rate r).ratios
  unfolding built_chart
  built-lengths =
      let n = built_size r in
      let kinds : n ≡ length (drop 2 r.kinds) = sym (length-drop 2 r.kinds) in
      record {
        start = length-tabulate (start_at rate r.times) n ∙ kinds;
        delta = length-tabulate (delta_at rate r.times) n ∙ kinds;
        ratio = length-tabulate (ratio_at rate r) n ∙ kinds;
      }

  pub ratios_good : (i : ℕ) → i < built_size r → ratio_good (get_or (built_chart rate r).ratios i nan) ≡ true
  unfolding built_chart
  ratios_good i h = rw (get_or-tabulate (ratio_at rate r) (built_size r) i nan h) (ratio_good_lem rate r i)

  pub all_ratios_good : all ratio_good (built_chart rate r).ratios ≡ true
  all_ratios_good = each_all ratio_good _ nan (λ i h. ratios_good i (omega (arith, built-lengths.ratio, built-size)))

  -- where kinds, starts and deltas are good, no object is refused
  good_lists : all kind_good (drop 2 r.kinds) ≡ true → all time_good (built_starts rate r.times (built_size r)) ≡ true
      → all time_good (built_deltas rate r.times (built_size r)) ≡ true → all ratio_good (built_chart rate r).ratios ≡ true
      → all_good (built_chart rate r) ≡ true
  unfolding built_chart
  good_lists a b c d = lists_good _ a b c d

  pub good_built : {n : ℕ} {k s d : Bool} → built_size r ≡ n → k ≡ all kind_good (drop 2 r.kinds) → s ≡ all time_good (built_starts rate r.times n)
      → d ≡ all time_good (built_deltas rate r.times n) → (k && (s && d)) ≡ true → accepted ≡ objects_verdict (built_chart rate r)
  good_built size e f g t =
      let k = and_parts _ _ t in
      let s = and_parts _ _ k.1 in
      all_good_accepted _ built-lengths
      (good_lists (sym e ∙ k.0) (rw size (sym f ∙ s.0)) (rw size (sym g ∙ s.1)) all_ratios_good)

  -- why object i is refused, as it is found with the raw object's kind, and with 1.0 for the ratio
  pub reason_found : (i : ℕ) {v : Check} {s d : Float} → i < built_size r → s ≡ start_at rate r.times i → d ≡ delta_at rate r.times i
      → v ≡ object_refusal (get_or r.kinds (i + 2) 0) s d one64
      → v ≡ object_refusal (get_or (built_chart rate r).kinds i 0) (get_or (built_chart rate r).starts i nan) (get_or (built_chart rate r).deltas i nan)
      (get_or (built_chart rate r).ratios i nan)
  unfolding built_chart
  reason_found i h e f g =
      let kind : get_or (drop 2 r.kinds) i 0 ≡ get_or r.kinds (i + 2) 0 = get_or-drop 2 r.kinds i 0 ∙ rw (add_comm 2 i) in
      rw (kind, get_or-tabulate (start_at rate r.times) (built_size r) i nan h, get_or-tabulate (delta_at rate r.times) (built_size r) i nan h)
      (rw (e, f) at g ∙ refusal_ratio _ _ _ one64 _ one_good (ratios_good i h))
