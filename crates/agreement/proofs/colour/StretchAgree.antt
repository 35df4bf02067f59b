-- Stretches behind a landmark: where every settled object has its counterpart's kind and value, the counterpart of an accepted stretch has a note too, and the
-- sums, and so the means and the tenths, are the same.
use mathlib.Core.Path.{◌≡◌}
use Prim.Native.Nat.{ℕ, ◌+◌, ◌-◌, ◌≤◌, ◌<◌}
use native.Mathlib.Omega.{arith}
use lib.ListN.{get_or}
use Rattle.grouping_chart.specs.Chart.{Chart, size}
use Rattle.grouping_chart.specs.Settings.{Settings}
use Rattle.call_colour.specs.Stretch.{GoodStretch}
use Rattle.call_colour.proofs.StretchCases.{StretchLies, good_lies}
use Rattle.call_colour.proofs.StretchValues.{value_at}
use Rattle.call_colour.proofs.AlikeLaws.{good_alike, mean-alike, tenths-alike}
use Rattle.agreement.specs.CommonTail.{Counterparts}
use Rattle.agreement.specs.colour.Claim.{hit_patterns, Settled, SameStretch}
use Rattle.agreement.proofs.colour.RiseLaws.{hit_rises}

-- hit patterns are numbered in order
pub settled-onwards : (c : Chart) {limit p : ℕ} (i j : ℕ) → Settled limit (hit_patterns c) p i → i ≤ j → j < size c → Settled limit (hit_patterns c) p j
settled-onwards c i j x l h = record { after = omega (arith, x.after); there = h; late = omega (arith, x.late, hit_rises c.kinds i j l h) }

module _ (s : Settings) (c c' : Chart) (p : ℕ)
    (kinds : (i i' : ℕ) → Settled s.search_limit (hit_patterns c) p i → Counterparts (size c) (size c') i i' → get_or c.kinds i 0 ≡ get_or c'.kinds i' 0)
    (values : (i i' : ℕ) → Settled s.search_limit (hit_patterns c) p i → Counterparts (size c) (size c') i i' → value_at s c i ≡ value_at s c' i')
    (a b a' b' : ℕ) (x : Settled s.search_limit (hit_patterns c) p a) (y : GoodStretch c.kinds a b)
    (from : Counterparts (size c) (size c') a a') (to : Counterparts (size c) (size c') b b') where
  lies : StretchLies c.kinds a b
  lies = good_lies c.kinds a b y

  equal : b - a ≡ b' - a'
  equal = omega (arith, lies.some)

  inside' : b' ≤ size c'
  inside' = omega (arith, lies.inside)

  settled : (i : ℕ) → i < b - a → Settled s.search_limit (hit_patterns c) p (a + i)
  settled i k = settled-onwards c a (a + i) x (omega arith) (omega (arith, lies.inside))

  same_kinds : (i : ℕ) → i < b - a → get_or c.kinds (a + i) 0 ≡ get_or c'.kinds (a' + i) 0
  same_kinds i k = kinds (a + i) (a' + i) (settled i k) (omega arith)

  same_values : (i : ℕ) → i < b - a → value_at s c (a + i) ≡ value_at s c' (a' + i)
  same_values i k = values (a + i) (a' + i) (settled i k) (omega arith)

  pub same_stretch : SameStretch s c a b c' a' b'
  same_stretch = record {
    accepted = good_alike s c c' a b a' b' lies equal inside' same_kinds same_values;
    mean = mean-alike s c c' a b a' b' lies equal inside' same_kinds same_values;
    tenths = tenths-alike s c c' a b a' b' lies equal inside' same_kinds same_values;
  }
