-- What an accepted lesson leaves, place by place, for crates above this one: its values are colour's, and of each pair it tells what the call stretch answers
-- of that stretch alone. A lesson that is refused for a pair is refused as that call refuses the stretch.
use mathlib.Core.Path.{◌≡◌, refl, sym, ap, ◌∙◌}
use mathlib.Core.List.{[]}
use Prim.Native.Nat.{ℕ, ◌+◌, ◌<◌}
use native.Mathlib.Omega.{arith}
use lib.ListN.{get_or}
use lib.IntN.{pos}
use lib.Ieee.{nan}
use Rattle.std.specs.Prelude.{Result, Ok}
use Rattle.lent.proofs.PieceLaws.{get_or-over}
use Rattle.lent.proofs.OverLaws.{over_none}
use Rattle.grouping_chart.specs.Chart.{Chart}
use Rattle.grouping_chart.specs.Outcome.{Outcome, outcome}
use Rattle.grouping_chart.specs.Settings.{Settings}
use Rattle.grouping_chart.specs.Refusal.{accepted}
use Rattle.grouping_chart.specs.declared.refusal.Refusal.{Refusal}
use Rattle.call_colour.specs.Call as colour
use Rattle.call_colour.specs.Call.{stretch_mean, colour_outcome, stretch_outcome}
use Rattle.call_colour.proofs.CallLaws.{colour-done, stretch-done}
use Rattle.call_lesson.specs.Lesson.{Stretches, stretches, pair_count, rising, pair_mean, pair_tenths}
use Rattle.call_lesson.specs.Call.{Memory, judged, filled, lesson_outcome}
use Rattle.call_lesson.specs.passes.Rooms.{pair_at}
use Rattle.call_lesson.proofs.PairLaws.{length-answers, answer_at}
use Rattle.call_lesson.proofs.VerdictLaws.{GoodSet}
use Rattle.call_lesson.proofs.CallLaws.{Taken, taken, untaken, done}

module _ (s : Settings) (c : Chart) (l : Stretches) (m : Memory) (good : judged s c l m ≡ accepted) where
  x : Taken s c l m
  x = taken s c l m good

  abbrev left : Memory
  left = (lesson_outcome s c l m).memory

  pub lesson-accepted : (lesson_outcome s c l m).answer ≡ Ok tt
  lesson-accepted = rw (← done s c l m good refl) refl

  memory_left : left ≡ filled s c l m
  memory_left = sym (ap (λ (o : Outcome (Result (Unit {0}) Refusal) Memory). o.memory) (done s c l m good refl))

  pub mean-written : (i : ℕ) → i < pair_count l → get_or left.mean i nan ≡ pair_mean s c (pair_at l i)
  unfolding filled
  mean-written i h =
      rw memory_left
      (get_or-over _ m.mean i nan (omega (arith, length-answers l x.lies.paired (pair_mean s c)))
      ∙ answer_at l x.lies.paired (pair_mean s c) i nan h)

  pub tenths-written : (i : ℕ) → i < pair_count l → get_or left.tenths i (pos 0) ≡ pair_tenths s c (pair_at l i)
  unfolding filled
  tenths-written i h =
      rw memory_left
      (get_or-over _ m.tenths i (pos 0) (omega (arith, length-answers l x.lies.paired (pair_tenths s c)))
      ∙ answer_at l x.lies.paired (pair_tenths s c) i (pos 0) h)

  coloured : left.colour ≡ colour.filled s c.kinds c.ratios m.colour
  unfolding filled
  coloured = ap (λ (k : Memory). k.colour) memory_left

  -- the slices that colour fills are left as that call leaves them
  pub as_colour : colour_outcome s c m.colour ≡ outcome (Ok tt) left.colour
  as_colour = sym (colour-done s c m.colour x.chart coloured)

  -- and each pair's answers are those of the call stretch, which leaves the same
  pub as_stretch : (i : ℕ) → i < pair_count l
      → stretch_outcome s c (get_or l.offsets i 0) (get_or l.offsets i 0 + get_or l.lengths i 0) m.colour
      ≡ outcome (Ok (stretch_mean (get_or left.mean i nan) (get_or left.tenths i (pos 0)))) left.colour
  as_stretch i h =
      sym (stretch-done s c m.colour x.chart coloured _ _ (x.lies.each i h) (mean-written i h) (tenths-written i h))

-- a lesson without pairs is to its chart what the call colour is, and leaves both answer slices as they are lent
module _ (s : Settings) (c : Chart) (m : Memory) (h : colour.judged s c m.colour ≡ accepted) where
  empty_set : GoodSet (stretches [] [])
  unfolding rising
  empty_set = record { few = omega arith; rise = refl }

  empty : judged s c (stretches [] []) m ≡ accepted
  empty = untaken s c (stretches [] []) m (record {
    chart = h;
    lies = record { paired = refl; set = empty_set; each = λ i k. absurd (omega arith) };
    mean_room = omega arith;
    tenths_room = omega arith;
  })

  pub no_pairs : lesson_outcome s c (stretches [] []) m
      ≡ outcome (Ok tt) (record { colour = (colour_outcome s c m.colour).memory; mean = m.mean; tenths = m.tenths })
  unfolding filled
  no_pairs =
      let left = colour-done s c m.colour h refl in
      sym (done s c (stretches [] []) m empty refl)
      ∙ (λ i. outcome (Ok tt) (record { colour = (left i).memory; mean = over_none m.mean i; tenths = over_none m.tenths i }))
