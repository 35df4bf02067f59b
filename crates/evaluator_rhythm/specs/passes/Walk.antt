-- The walk over own intervals in its two steps: the own intervals that it takes, and the penalty among them. The law
-- that ties them to `walk_penalty` is `walked`, in proofs/WalkLaws.antt.
use Rattle.std.specs.Prelude.{ℕ, cond, List, ltb, length, take, Float, Option, Some, None}
use Rattle.numeric.specs.Constants.{one64, eight_tenths}
use Rattle.evaluator_rhythm.specs.RepeatedInterval.{present, some_pair}

-- the first k own intervals, if they all exist
unfoldable pub newest_of : ℕ → List (Option Float) → Option (List Float)
newest_of k owns =
    let walked = present (take k owns) in
    cond (ltb (length walked) k) None (Some walked)

-- the penalty among them
unfoldable pub penalty_among : Float → Option (List Float) → Float
penalty_among threshold None = one64
penalty_among threshold (Some walked) = cond (some_pair threshold walked) eight_tenths one64
