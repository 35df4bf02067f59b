-- Stretches of two charts whose objects have the same kinds and values: the one is accepted where the other is, with the same mean and tenths. For crates
-- above this one.
use mathlib.Core.Path.{◌≡◌, sym, ap, ◌∙◌}
use Prim.Native.Nat.{ℕ, ◌+◌, ◌-◌, ◌≤◌, ◌<◌}
use native.Mathlib.Omega.{arith}
use lib.ListN.{get_or}
use lib.Ieee.{nan}
use Rattle.numeric.specs.Tenths.{tenths_of}
use Rattle.lent.specs.Over.{part}
use Rattle.lent.proofs.OverLaws.{part-alike}
use Rattle.grouping_chart.specs.Chart.{Chart, size}
use Rattle.grouping_chart.specs.Settings.{Settings}
use Rattle.grouping_interval.specs.Notes.{of_notes}
use Rattle.evaluator_values.specs.Colour.{values_of}
use Rattle.evaluator_values.proofs.StandingLaws.{length-values, value_of}
use Rattle.call_colour.specs.Stretch.{from_to, has_note, GoodStretch, stretch_values, average_of, chart_mean, chart_tenths}
use Rattle.call_colour.proofs.StretchCases.{StretchLies, lies_good}
use Rattle.call_colour.proofs.StretchValues.{value_at}

module _ (s : Settings) (c c' : Chart) (a b a' b' : ℕ) (x : StretchLies c.kinds a b) (equal : b - a ≡ b' - a') (inside' : b' ≤ size c')
    (kinds : (i : ℕ) → i < b - a → get_or c.kinds (a + i) 0 ≡ get_or c'.kinds (a' + i) 0)
    (values : (i : ℕ) → i < b - a → value_at s c (a + i) ≡ value_at s c' (a' + i)) where
  end : a + (b - a) ≤ size c
  end = omega (arith, x.some, x.inside)

  end' : a' + (b - a) ≤ size c'
  end' = omega (arith, x.some, equal, inside')

  kinds-alike : from_to a b c.kinds ≡ from_to a' b' c'.kinds
  kinds-alike = part-alike 0 a a' (b - a) c.kinds c'.kinds end end' kinds ∙ ap (λ (n : ℕ). part a' n c'.kinds) equal

  values-alike : from_to a b (values_of s c) ≡ from_to a' b' (values_of s c')
  values-alike =
      let l = length-values s.search_limit s.tolerance c.kinds c.ratios in
      let l' = length-values s.search_limit s.tolerance c'.kinds c'.ratios in
      part-alike nan a a' (b - a) (values_of s c) (values_of s c') (omega (arith, end, l)) (omega (arith, end', l'))
      (λ i h. value_of s.search_limit s.tolerance c.kinds c.ratios (a + i) (omega (arith, end)) ∙ values i h
      ∙ sym (value_of s.search_limit s.tolerance c'.kinds c'.ratios (a' + i) (omega (arith, end'))))
      ∙ ap (λ (n : ℕ). part a' n (values_of s c')) equal

  pub good_alike : GoodStretch c'.kinds a' b'
  good_alike =
      lies_good c'.kinds a' b' (record { some = omega (arith, x.some, equal); inside = inside'; noted = ap has_note (sym kinds-alike) ∙ x.noted })

  made_alike : stretch_values s c a b ≡ stretch_values s c' a' b'
  unfolding stretch_values
  made_alike = λ i. of_notes (kinds-alike i) (values-alike i)

  pub mean-alike : chart_mean s c a b ≡ chart_mean s c' a' b'
  unfolding chart_mean
  mean-alike = ap average_of made_alike

  pub tenths-alike : chart_tenths s c a b ≡ chart_tenths s c' a' b'
  unfolding chart_tenths
  tenths-alike = ap tenths_of mean-alike
