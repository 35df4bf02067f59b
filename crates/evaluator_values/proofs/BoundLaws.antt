-- Sizes: every colour value of an accepted chart is finite, no NaN, and at most `largest_colour` in size.
use mathlib.Core.Path.{◌≡◌}
use mathlib.Core.Bool.{not}
use Prim.Native.Nat.{ℕ, ◌-◌, ◌<◌}
use native.Mathlib.Omega.{arith}
use lib.Dec.{T}
use lib.ListN.{get_or}
use lib.Ieee.{nan, binary64, is_nan, le, mul}
use lib.Ieee.Fits.{mul-fits}
use Rattle.numeric.specs.Range.{least_ratio, greatest_ratio}
use Rattle.numeric.proofs.Values.{Number, number_no_nan}
use Rattle.numeric.proofs.Bounded.{Bounded, bounded_number}
use Rattle.grouping_chart.specs.Chart.{Chart, size}
use Rattle.grouping_chart.specs.Refusal.{Check, accepted, verdict}
use Rattle.grouping_chart.specs.Settings.{Settings}
use Rattle.grouping_chart.proofs.AcceptedLaws.{GoodChart, accepted_good}
use Rattle.grouping_chart.proofs.RangeLaws.{ratio_range}
use Rattle.evaluator_colour.specs.Formulas.{object_sum}
use Rattle.evaluator_colour.specs.RatioPenalty.{ratio_penalty}
use Rattle.evaluator_colour.proofs.BoundLaws as formulas
use Rattle.evaluator_values.specs.Colour.{standing_at, colour_at, values_of}
use Rattle.evaluator_values.proofs.StandingLaws.{value_of}

-- 5 * (2 ^ 24 + 1): an object's sum times its penalty
abbrev pub largest_colour : ℕ
largest_colour = 83886085

value_is : (s : Settings) (c : Chart) (i : ℕ) → i < size c
    → get_or (values_of s c) i nan ≡ mul binary64 (object_sum (standing_at s.search_limit c.kinds i))
    (ratio_penalty s.tolerance i (get_or c.ratios i nan) (get_or c.ratios (i - 2) nan))
unfolding colour_at
value_is s c i h = value_of s.search_limit s.tolerance c.kinds c.ratios i h

ratio_at_lem : {c : Chart} {beside : Check} → GoodChart c beside → (i : ℕ) → i < size c
    → T (le least_ratio (get_or c.ratios i nan)) × T (le (get_or c.ratios i nan) greatest_ratio)
ratio_at_lem {c} g i h = ratio_range (get_or c.ratios i nan) (g.objects i nan h).ratio

module _ (s : Settings) (c : Chart) (beside : Check) (good : verdict c beside ≡ accepted) where
  pub value_bounded : (i : ℕ) → i < size c → Bounded (get_or (values_of s c) i nan) largest_colour
  value_bounded i h =
      let objects = accepted_good c beside good in
      let r = ratio_at_lem objects i h in
      let p = ratio_at_lem objects (i - 2) (omega arith) in
      rw (value_is s c i h)
      (formulas.colour_bounded s.tolerance i (get_or c.ratios i nan) (get_or c.ratios (i - 2) nan) r.0 r.1 p.0 p.1
      (standing_at s.search_limit c.kinds i))

  pub value_number : (i : ℕ) → i < size c → Number (get_or (values_of s c) i nan)
  value_number i h =
      bounded_number (get_or (values_of s c) i nan) largest_colour (rw (value_is s c i h) (mul-fits binary64 _ _))
      (value_bounded i h)

  pub value_no_nan : (i : ℕ) → i < size c → T (not (is_nan (get_or (values_of s c) i nan)))
  value_no_nan i h = number_no_nan (value_number i h)
