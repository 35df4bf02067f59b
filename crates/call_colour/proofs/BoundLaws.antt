-- Sizes: the mean of every stretch of an accepted chart is finite, no NaN, and at most `largest_colour` in size. So it has tenths.
-- A sum of m values is at most m times that, so divided by m it is at most that again.
use mathlib.Core.Path.{◌≡◌}
use mathlib.Core.Bool.{not}
use mathlib.Core.List.{List, [], ◌∷◌}
use Prim.Native.Nat.{ℕ, suc, ◌+◌, ◌*◌, ◌^◌, ◌≤◌, ◌<◌}
use native.Mathlib.Nat.{le_trans, le_of_eq, le-add_right, zero-add, suc-mul}
use native.Mathlib.Omega.{arith}
use lib.Dec.{T, leb→le, lit≤}
use lib.ListN.{length, get_or}
use lib.Ieee.{Float, nan, binary64, is_nan, add}
use lib.Ieee.Fits.{div-fits}
use Rattle.numeric.specs.Constants.{zero64}
use Rattle.numeric.specs.Tenths.{NearestTenths, InTenthsRange}
use Rattle.numeric.proofs.Values.{Number, number_no_nan}
use Rattle.numeric.proofs.Bounded as bounds
use Rattle.numeric.proofs.Bounded.{Bounded, bounded_more, bounded_number, bounded_tenths, add_bounded}
use Rattle.numeric.proofs.tenths.Nearest.{tenths_nearest}
use Rattle.grouping_chart.specs.Chart.{Chart}
use Rattle.grouping_chart.specs.Refusal.{Check, accepted, verdict}
use Rattle.grouping_chart.specs.Settings.{Settings}
use Rattle.grouping_chart.proofs.AcceptedLaws.{accepted_good}
use Rattle.evaluator_values.proofs.BoundLaws.{largest_colour, value_bounded}
use Rattle.call_colour.specs.Stretch.{GoodStretch, stretch_values, sum_from, average_of, chart_mean, chart_tenths}
use Rattle.call_colour.proofs.StretchCases.{StretchLies, good_lies}
use Rattle.call_colour.proofs.StretchValues.{stretch-some, stretch-few, stretch_all}

-- ---- a sum from left to right
sum_bounded : (B C : ℕ) (sum : Float) (xs : List Float) → C + length xs * B ≤ 2 ^ 53 → Bounded sum C → ((i : ℕ) → i < length xs → Bounded (get_or xs i nan) B)
    → Bounded (sum_from sum xs) (C + length xs * B)
unfolding sum_from
sum_bounded B C sum [] k h g = bounded_more sum C (C + 0 * B) (omega arith) h
sum_bounded B C sum (x ∷ xs) k h g =
    let e : C + B + length xs * B ≡ C + suc (length xs) * B = more C B (length xs) in
    bounded_more (sum_from (add binary64 sum x) xs) (C + B + length xs * B) (C + suc (length xs) * B) (le_of_eq e)
    (sum_bounded B (C + B) (add binary64 sum x) xs (le_trans (le_of_eq e) k)
    (add_bounded sum x C B (le_trans (le-add_right (C + B) (length xs * B)) (le_trans (le_of_eq e) k)) h (g 0 (omega arith))) (λ i l. g (suc i) (omega arith)))
  where
    more : (C B n : ℕ) → C + B + n * B ≡ C + suc n * B
    more C B n = omega (arith, suc-mul n B)

-- and divided by how many there are
average_bounded : (B : ℕ) (xs : List Float) → 0 < length xs → length xs ≤ 2 ^ 53 → B ≤ 2 ^ 53 → length xs * B ≤ 2 ^ 53
    → ((i : ℕ) → i < length xs → Bounded (get_or xs i nan) B) → Bounded (average_of xs) B
unfolding average_of
average_bounded B xs some few k l g =
    bounds.mean_bounded (sum_from zero64 xs) (length xs) B some few k
    (rw zero-add at (sum_bounded B 0 zero64 xs (omega arith) (leb→le 0 0 tt) g))

-- ---- the mean of a stretch of an accepted chart
module _ (s : Settings) (c : Chart) (beside : Check) (good : verdict c beside ≡ accepted) (a b : ℕ) (x : GoodStretch c.kinds a b) where
  abbrev made : List Float
  made = stretch_values s c a b

  lies : StretchLies c.kinds a b
  lies = good_lies c.kinds a b x

  made_few : length made ≤ 16384
  made_few = omega (arith, stretch-few s c a b lies, lies.inside, (accepted_good c beside good).few)

  pub mean_bounded : Bounded (chart_mean s c a b) largest_colour
  unfolding chart_mean
  mean_bounded =
      average_bounded largest_colour made (stretch-some s c a b lies) (omega (arith, made_few)) (lit≤ tt) (omega (arith, made_few))
      (stretch_all s c a b lies (λ (v : Float). Bounded v largest_colour) (value_bounded s c beside good))

  pub mean_number : Number (chart_mean s c a b)
  unfolding chart_mean average_of
  mean_number = bounded_number (chart_mean s c a b) largest_colour (div-fits binary64 _ _) mean_bounded

  pub mean_no_nan : T (not (is_nan (chart_mean s c a b)))
  mean_no_nan = number_no_nan mean_number

  pub mean-tenths : InTenthsRange (chart_mean s c a b)
  mean-tenths = bounded_tenths (chart_mean s c a b) largest_colour (lit≤ tt) mean_bounded

  -- so what stretch shows is the whole number nearest to ten times its mean, an even one at a half
  pub shown_nearest : NearestTenths (chart_mean s c a b) (chart_tenths s c a b)
  unfolding chart_tenths
  shown_nearest = tenths_nearest (chart_mean s c a b) mean_number.is_finite
