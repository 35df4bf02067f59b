-- A good time, or a good ratio, lies between the ends of its range; a ratio that does is good. So of all times or ratios of a list.
use mathlib.Core.Path.{◌≡◌, refl}
use mathlib.Core.Bool.{true}
use mathlib.Core.List.{List}
use lib.Dec.{T}
use denote.Floats.{is_true}
use lib.Ieee.{Float, le}
use Rattle.numeric.specs.Range.{within, earliest, latest, least_ratio, greatest_ratio}
use Rattle.numeric.proofs.range.Laws.{within_ends, ends_within}
use Rattle.grouping_chart.specs.Refusal.{time_good, ratio_good}
use Rattle.grouping_chart.specs.passes.Good.{all}

pub time_range : (x : Float) → T (time_good x) → T (le earliest x) × T (le x latest)
unfolding time_good
time_range x t = within_ends earliest latest x t

pub good_ratio : (x : Float) → T (le least_ratio x) → T (le x greatest_ratio) → ratio_good x ≡ true
unfolding ratio_good
good_ratio x a b = is_true _ (ends_within least_ratio greatest_ratio x a b)

pub ratio_range : (x : Float) → T (ratio_good x) → T (le least_ratio x) × T (le x greatest_ratio)
unfolding ratio_good
ratio_range x t = within_ends least_ratio greatest_ratio x t

-- ---- of a list, as `all_within` answers

pub all_times : (xs : List Float) → all (within earliest latest) xs ≡ all time_good xs
unfolding time_good
all_times xs = refl

pub all_ratios : (xs : List Float) → all (within least_ratio greatest_ratio) xs ≡ all ratio_good xs
unfolding ratio_good
all_ratios xs = refl
