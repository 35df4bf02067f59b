-- Under a threshold that is not negative a group is penalized as under its size.
use mathlib.Core.Path.{◌≡◌, refl}
use mathlib.Core.Bool.{cond, ◌||◌}
use mathlib.Core.List.{List, [], ◌∷◌}
use lib.Dec.{ltb}
use lib.ListN.{length, take}
use lib.Ieee.{Float, binary64, mul, div}
use Rattle.numeric.specs.Constants.{one64, eight_tenths}
use Rattle.numeric.specs.Near.{abs_of}
use Rattle.numeric.proofs.ZeroSign.{NotNegative, near_unsigned}
use Rattle.evaluator_rhythm.specs.RepeatedInterval.{present, similar, similar_to, some_pair, walk_penalty, newest_first}
use Rattle.evaluator_rhythm.specs.RepeatedInterval.{smaller, duration_penalty, repeated_interval_penalty}

module _ {threshold : Float} (h : NotNegative threshold) where
  similar_unsigned : similar threshold ≡ similar (abs_of threshold)
  unfolding similar
  similar_unsigned = λ i newer older. near_unsigned h i one64 (div binary64 newer older)

  some_unsigned : (newer : Float) (older : List Float) → similar_to threshold newer older ≡ similar_to (abs_of threshold) newer older
  unfolding similar_to
  some_unsigned newer [] = refl
  some_unsigned newer (older ∷ rest) = λ i. similar_unsigned i newer older || some_unsigned newer rest i

  pair_unsigned : (walked : List Float) → some_pair threshold walked ≡ some_pair (abs_of threshold) walked
  unfolding some_pair
  pair_unsigned [] = refl
  pair_unsigned (newer ∷ older) = λ i. some_unsigned newer older i || pair_unsigned older i

  walk_unsigned : walk_penalty threshold ≡ walk_penalty (abs_of threshold)
  unfolding walk_penalty
  walk_unsigned = λ i k owns.
      cond (ltb (length (present (take k owns))) k) one64 (cond (pair_unsigned (present (take k owns)) i) eight_tenths one64)

  pub penalty_unsigned : repeated_interval_penalty threshold ≡ repeated_interval_penalty (abs_of threshold)
  unfolding repeated_interval_penalty
  penalty_unsigned = λ i owns notes duration window.
      mul binary64
      (smaller (walk_unsigned i 3 (newest_first owns)) (cond (ltb notes 6) (walk_unsigned i 4 (newest_first owns)) one64))
      (duration_penalty duration window)
