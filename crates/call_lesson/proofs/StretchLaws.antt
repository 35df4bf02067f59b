-- The stretches of an accepted lesson after the values are filled: each lies inside them, and its mean and its tenths are the definition's.
use mathlib.Core.Path.{◌≡◌, sym, ap, ◌∙◌}
use mathlib.Core.List.{List, map}
use Prim.Native.Nat.{ℕ, ◌+◌, ◌-◌, ◌<◌}
use native.Mathlib.Omega.{arith}
use lib.ListN.{get_or}
use lib.IntN.{ℤ, pos}
use lib.Ieee.{Float, nan}
use Rattle.lent.specs.Over.{over}
use Rattle.grouping_chart.specs.Chart.{Chart}
use Rattle.grouping_chart.specs.Settings.{Settings}
use Rattle.grouping_interval.specs.Notes.{of_notes}
use Rattle.call_colour.specs.Stretch.{from_to, average_of}
use Rattle.call_colour.specs.Call as colour
use Rattle.call_colour.specs.passes.Rooms.{StretchRoom}
use Rattle.call_colour.proofs.StretchCases.{from_to-sum}
use Rattle.call_colour.proofs.StretchLaws.{Stretched, stretch_room, mean_is, tenths_is, mean_in_range}
use Rattle.call_lesson.specs.Lesson.{Stretches, pair_count, pairs, pair_mean, pair_tenths}
use Rattle.call_lesson.specs.Call.{Memory, filled}
use Rattle.call_lesson.specs.passes.Rooms.{PairsRoom, pair_at, mean_in, tenths_in}
use Rattle.call_lesson.proofs.PairLaws.{answers_alike}
use Rattle.call_lesson.proofs.CallLaws.{Taken}

module _ {s : Settings} {c : Chart} {l : Stretches} {m : Memory} {new : colour.Memory} (x : Taken s c l m)
    (made : new ≡ colour.filled s c.kinds c.ratios m.colour) where
  module _ (i : ℕ) (h : i < pair_count l) where
    abbrev a : ℕ
    a = get_or l.offsets i 0

    abbrev n : ℕ
    n = get_or l.lengths i 0

    stretched : Stretched s c m.colour a (a + n) new
    stretched = record { taken = x.chart; good = x.lies.each i h; made = made }

    there : StretchRoom c.kinds new.value a n
    there = let e : a + n - a ≡ n = omega arith in rw e at (stretch_room stretched)

    -- the average by its first object and length is that by its ends
    by_ends : mean_in c.kinds new.value (pair_at l i) ≡ average_of (of_notes (from_to a (a + n) c.kinds) (from_to a (a + n) new.value))
    by_ends = λ t. average_of (of_notes (sym (from_to-sum a n c.kinds) t) (sym (from_to-sum a n new.value) t))

    mean_there : mean_in c.kinds new.value (pair_at l i) ≡ pair_mean s c (pair_at l i)
    mean_there = mean_is stretched by_ends

    tenths_there : tenths_in c.kinds new.value (pair_at l i) ≡ pair_tenths s c (pair_at l i)
    tenths_there = tenths_is stretched by_ends

  pub pairs_room : PairsRoom c.kinds new.value l m.mean m.tenths
  pairs_room = record {
    paired = x.lies.paired;
    there = there;
    small = λ i h. mean_in_range (stretched i h) (by_ends i h);
    mean_room = x.mean_room;
    tenths_room = x.tenths_room;
  }

  -- the memory that the passes leave is the definition's
  pub filled_is : {mean : List Float} {tenths : List ℤ} → mean ≡ over (map (mean_in c.kinds new.value) (pairs l)) m.mean
      → tenths ≡ over (map (tenths_in c.kinds new.value) (pairs l)) m.tenths
      → record { colour = new; mean = mean; tenths = tenths } ≡ filled s c l m
  unfolding filled
  filled_is e f =
      let means = e ∙ ap (λ (xs : List Float). over xs m.mean) (answers_alike l x.lies.paired _ _ nan mean_there) in
      let tenths = f ∙ ap (λ (xs : List ℤ). over xs m.tenths) (answers_alike l x.lies.paired _ _ (pos 0) tenths_there) in
      λ t. record { colour = made t; mean = means t; tenths = tenths t }
