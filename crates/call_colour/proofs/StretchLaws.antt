-- An accepted stretch, after the values are filled: it lies inside them, their mean is the definition's, and its tenths can be asked.
use mathlib.Core.Path.{◌≡◌, ap, ◌∙◌}
use mathlib.Core.List.{List}
use Prim.Native.Nat.{ℕ, ◌+◌, ◌-◌, ◌≤◌}
use native.Mathlib.Omega.{arith}
use lib.ListN.{length}
use lib.Ieee.{Float, nan}
use Rattle.numeric.specs.Tenths.{InTenthsRange, tenths_of}
use Rattle.lent.specs.Over.{over}
use Rattle.lent.proofs.PieceLaws.{get_or-over}
use Rattle.lent.proofs.OverLaws.{length-over, part-alike}
use Rattle.grouping_chart.specs.Chart.{Chart, size}
use Rattle.grouping_chart.specs.Settings.{Settings}
use Rattle.grouping_chart.specs.Refusal.{accepted}
use Rattle.grouping_interval.specs.Notes.{of_notes}
use Rattle.evaluator_values.specs.Colour.{values_of}
use Rattle.grouping_chart.proofs.AcceptedLaws.{accepted_good}
use Rattle.evaluator_values.proofs.StandingLaws.{length-values}
use Rattle.call_colour.specs.Stretch.{from_to, GoodStretch, stretch_values, average_of, chart_mean, chart_tenths}
use Rattle.call_colour.specs.Call.{Memory, judged, filled}
use Rattle.call_colour.specs.passes.Rooms.{StretchRoom}
use Rattle.call_colour.proofs.CallLaws.{chart_room}
use Rattle.call_colour.proofs.StretchCases.{StretchLies, good_lies}
use Rattle.call_colour.proofs.BoundLaws.{mean-tenths}

-- ---- an accepted stretch, after the values are filled
pub record Stretched (s : Settings) (c : Chart) (m : Memory) (a b : ℕ) (new : Memory) : Type 0 where
  pub taken : judged s c m ≡ accepted
  pub good : GoodStretch c.kinds a b
  pub made : new ≡ filled s c.kinds c.ratios m

module _ {s : Settings} {c : Chart} {m : Memory} {a b : ℕ} {new : Memory} (x : Stretched s c m a b new) where
  abbrev values : List Float
  values = values_of s c

  long : length values ≡ size c
  long = length-values s.search_limit s.tolerance c.kinds c.ratios

  lies : StretchLies c.kinds a b
  lies = good_lies c.kinds a b x.good

  room : length values ≤ length m.value
  room = omega (arith, long, (chart_room s c m x.taken).values)

  written : new.value ≡ over values m.value
  unfolding filled
  written = rw x.made

  pub stretch_room : StretchRoom c.kinds new.value a (b - a)
  stretch_room = record {
    known = λ i h. ((accepted_good c _ x.taken).objects i nan h).kind;
    kinded = omega (arith, lies.some, lies.inside);
    valued = omega (arith, lies.some, lies.inside, long, room, ap length written, length-over values m.value room);
    few = omega (arith, lies.inside, (chart_room s c m x.taken).regions);
  }

  -- the values from a to b, read where they were written
  values_there : from_to a b new.value ≡ from_to a b values
  values_there =
      let end : a + (b - a) ≤ length values = omega (arith, lies.some, lies.inside, long) in
      rw written
      (part-alike nan a a (b - a) (over values m.value) values (omega (arith, end, length-over values m.value room, room)) end
      (λ i h. get_or-over values m.value (a + i) nan (omega (arith, end))))

  abbrev averaged : Float
  averaged = average_of (of_notes (from_to a b c.kinds) (from_to a b new.value))

  pub mean_is : {mean : Float} → mean ≡ averaged → mean ≡ chart_mean s c a b
  unfolding chart_mean stretch_values
  mean_is h = h ∙ ap (λ (all : List Float). average_of (of_notes (from_to a b c.kinds) all)) values_there

  pub tenths_is : {mean : Float} → mean ≡ averaged → tenths_of mean ≡ chart_tenths s c a b
  unfolding chart_tenths
  tenths_is h = ap tenths_of (mean_is h)

  pub mean_in_range : {mean : Float} → mean ≡ averaged → InTenthsRange mean
  mean_in_range h = rw (mean_is h) (mean-tenths s c _ x.taken a b x.good)
