-- A set is not refused exactly where each number lies in its range; and the base's four, 5.0, 16, and the f64 nearest to 1 / 10 and to 1 / 100, do.
use mathlib.Core.Path.{◌≡◌, refl}
use mathlib.Core.Bool.{false}
use Prim.Native.Nat.{◌≤◌}
use native.Mathlib.Omega.{arith}
use borrow.Author.Tests.{leb-true, le-leb}
use denote.Floats.{passes, is_true}
use lib.Dec.{T}
use lib.IntN.{pos}
use lib.Ieee.{fin, binary64, of_bits, round, le}
use Rattle.std.proofs.lemmas.Bool.{and_parts}
use Rattle.numeric.specs.Constants.{zero64, one64}
use Rattle.numeric.specs.Range.{within}
use Rattle.numeric.proofs.range.Laws.{ends_within}
use Rattle.grouping_chart.specs.Settings.{Settings, base_settings, fifty64, settings_good, settings_refusal, Permitted}
use Rattle.grouping_chart.proofs.AcceptedLaws.{test_passed}

-- each number lies in its range
pub record InRanges (s : Settings) : Type 0 where
  pub margin : T (within zero64 fifty64 s.margin)
  pub least : 2 ≤ s.search_limit
  pub most : s.search_limit ≤ 64
  pub threshold : T (within zero64 one64 s.threshold)
  pub tolerance : T (within zero64 one64 s.tolerance)

pub in_ranges : {s : Settings} → Permitted s → InRanges s
unfolding settings_refusal settings_good
in_ranges {s} p =
    let all = and_parts _ _ (test_passed (settings_good s) _ p) in
    let rest = and_parts _ _ all.1 in
    let limit = and_parts _ _ rest.0 in
    let scores = and_parts _ _ rest.1 in
    record {
      margin = passes _ all.0;
      least = leb-true 2 s.search_limit limit.0;
      most = leb-true s.search_limit 64 limit.1;
      threshold = passes _ scores.0;
      tolerance = passes _ scores.1;
    }

-- and a set whose numbers do is not refused
pub ranges_permitted : {s : Settings} → InRanges s → Permitted s
unfolding settings_refusal settings_good
ranges_permitted {s} r =
    rw (is_true _ r.margin, le-leb 2 s.search_limit r.least, le-leb s.search_limit 64 r.most, is_true _ r.threshold, is_true _ r.tolerance) refl

-- ---- the base's

pub base_is : ◌≡◌ {A = Settings} base_settings (record {
  margin = fin false 5 (pos 0);
  search_limit = 16;
  threshold = round binary64 false 1 10;
  tolerance = round binary64 false 1 100;
})
unfolding of_bits round
base_is = refl

pub base_permitted : Permitted base_settings
unfolding le of_bits
base_permitted = ranges_permitted (record {
  margin = ends_within _ _ _ tt tt;
  least = omega arith;
  most = omega arith;
  threshold = ends_within _ _ _ tt tt;
  tolerance = ends_within _ _ _ tt tt;
})
