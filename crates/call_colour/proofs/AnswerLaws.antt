-- What colour or stretch writes and answers on a chart that is accepted, place by place, for crates above this one.
use mathlib.Core.Path.{◌≡◌, refl, sym}
use Prim.Native.Nat.{ℕ, ◌<◌}
use native.Mathlib.Omega.{arith}
use lib.ListN.{get_or}
use lib.Ieee.{nan}
use Rattle.lent.proofs.PieceLaws.{get_or-over}
use Rattle.grouping_chart.specs.Chart.{Chart, size}
use Rattle.grouping_chart.specs.Settings.{Settings}
use Rattle.std.specs.Prelude.{Ok, Err}
use Rattle.grouping_chart.specs.Outcome.{outcome}
use Rattle.grouping_chart.specs.Refusal.{accepted, at_0}
use Rattle.grouping_chart.specs.declared.refusal.Reason.{Reason}
use Rattle.grouping_chart.proofs.OutcomeLaws.{then-refused, answered-refused}
use Rattle.evaluator_values.specs.Colour.{values_of}
use Rattle.evaluator_values.proofs.StandingLaws.{length-values}
use Rattle.call_colour.specs.Stretch.{stretch_refusal, GoodStretch, chart_mean, chart_tenths}
use Rattle.call_colour.specs.Call.{Memory, judged, filled, stretch_mean, colour_outcome, stretch_outcome}
use Rattle.call_colour.proofs.CallLaws.{colour-done, stretch-done}

module _ (s : Settings) (c : Chart) (lent : Memory) (good : judged s c lent ≡ accepted) where
  pub value-written : (i : ℕ) → i < size c → get_or (colour_outcome s c lent).memory.value i nan ≡ get_or (values_of s c) i nan
  unfolding filled
  value-written i h =
      rw (← colour-done s c lent good refl)
      (get_or-over (values_of s c) lent.value i nan (omega (arith, length-values s.search_limit s.tolerance c.kinds c.ratios)))

  pub stretch-answered : (a b : ℕ) → GoodStretch c.kinds a b
      → (stretch_outcome s c a b lent).answer ≡ Ok (stretch_mean (chart_mean s c a b) (chart_tenths s c a b))
  stretch-answered a b x =
      rw (← stretch-done s c lent good refl a b x refl refl)

  -- a stretch that is refused is told why, at place 0
  pub stretch-refused : (a b : ℕ) {why : Reason} → stretch_refusal c.kinds a b ≡ Err why → stretch_outcome s c a b lent ≡ outcome (Err (at_0 why)) lent
  unfolding stretch_outcome
  stretch-refused a b e = sym (answered-refused _ _ lent (then-refused _ good e) refl)
