-- An interval has at most two digits, since the search limit is 16.
use mathlib.Core.Logic.{⊎_elim}
use mathlib.Core.List.{List}
use Prim.Native.Nat.{ℕ, ◌<◌}
use native.Mathlib.Omega.{arith}
use lib.ListN.{length, get_or}
use Rattle.grouping_preprocessor.specs.Preprocessor.{interval_of}
use Rattle.grouping_preprocessor.proofs.BoundLaws.{interval_of_range}
use Rattle.grouping_chart.specs.Settings.{base_settings}

pub interval-small : (kinds : List ℕ) (i : ℕ) → i < length kinds → get_or (interval_of base_settings.search_limit kinds) i 0 < 100
interval-small kinds i h =
    ⊎_elim (λ u. omega (arith, u)) (λ u. omega arith) (interval_of_range kinds base_settings.search_limit i h)
