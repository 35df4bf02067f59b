-- What the pass that leaves each value once promises.
use Rattle.std.specs.Prelude.{ℕ, ◌≡◌, List, length, Float}
use Rattle.grouping_normalizer.specs.Normalizer.{distinct, distinct_in_front}

-- of `distinct_values`: what it leaves of a lent slice, and how many values are distinct
pub record Distinct (old new : List Float) (r : ℕ) : Type 0 where
  pub values : new ≡ distinct_in_front old
  pub count : r ≡ length (distinct old)
