-- Which note is a rhythm landmark (scope: "Landmarks"): the second of three neighbours in the tail, near the
-- first and not near the third.
use Rattle.std.specs.Prelude.{ℕ, ◌+◌, ◌-◌, ◌≤◌, ◌<◌, ◌≡◌, true, false, List, length, get_or, Float}
use Rattle.std.specs.Float.{nan}
use Rattle.numeric.specs.Near.{is_near}

-- note i is a landmark, where the notes have these deltas and the last t of them are of the tail. Notes are given by
-- their numbers, from 0
pub record RhythmLandmark (margin : Float) (deltas : List Float) (t i : ℕ) : Type 0 where
  -- there are a note i − 1 and a note i + 1
  pub before_there : 0 < i
  pub next_there : i + 1 < length deltas
  -- note i − 1 is of the tail, and so the two behind it are
  pub of_tail : length deltas ≤ i - 1 + t
  -- notes i − 1 and i are near in delta
  pub near : is_near margin (get_or deltas (i - 1) nan) (get_or deltas i nan) ≡ true
  -- notes i and i + 1 are not
  pub not_near : is_near margin (get_or deltas i nan) (get_or deltas (i + 1) nan) ≡ false
