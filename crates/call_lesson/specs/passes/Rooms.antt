-- What the passes of lesson ask.
use Rattle.std.specs.Prelude.{◌≡◌, ℕ, ◌≤◌, ◌<◌, List, length, get_or, Float, ℤ}
use Rattle.numeric.specs.Tenths.{InTenthsRange, tenths_of}
use Rattle.lent.specs.Over.{part}
use Rattle.grouping_interval.specs.Notes.{of_notes}
use Rattle.call_colour.specs.Stretch.{average_of}
use Rattle.call_colour.specs.passes.Rooms.{StretchRoom}
use Rattle.call_lesson.specs.Lesson.{Stretches, Pair, pair_count}

-- there are as many lengths as offsets
abbrev pub Paired : Stretches → Type 0
Paired l = length l.lengths ≡ pair_count l

-- the mean of a pair's stretch, of these kinds and values
abbrev pub mean_in : List ℕ → List Float → Pair → Float
mean_in kinds values p = average_of (of_notes (part p.0 p.1 kinds) (part p.0 p.1 values))

abbrev pub tenths_in : List ℕ → List Float → Pair → ℤ
tenths_in kinds values p = tenths_of (mean_in kinds values p)

-- pair i
abbrev pub pair_at : Stretches → ℕ → Pair
pair_at l i = (get_or l.offsets i 0, get_or l.lengths i 0)

-- each pair's stretch is there, with a mean of which the tenths can be told, and a place for both
pub record PairsRoom (kinds : List ℕ) (values : List Float) (l : Stretches) (mean : List Float) (tenths : List ℤ)
    : Type 0 where
  pub paired : Paired l
  pub there : (i : ℕ) → i < pair_count l → StretchRoom kinds values (get_or l.offsets i 0) (get_or l.lengths i 0)
  pub small : (i : ℕ) → i < pair_count l → InTenthsRange (mean_in kinds values (pair_at l i))
  pub mean_room : pair_count l ≤ length mean
  pub tenths_room : pair_count l ≤ length tenths
