-- A permitted set and the same set without signs give one outcome of lesson: they refuse the same, and have the same values and means.
use mathlib.Core.Path.{◌≡◌, sym, ◌∙◌}
use mathlib.Core.List.{map}
use lib.ListN.{length}
use Rattle.lent.specs.Over.{over}
use Rattle.grouping_chart.specs.Chart.{Chart, size}
use Rattle.grouping_chart.specs.Outcome.{answered}
use Rattle.grouping_chart.specs.Refusal.{and_then, verdict}
use Rattle.grouping_chart.specs.Room.{short_refusal}
use Rattle.grouping_chart.specs.Settings.{Settings, Permitted, unsigned}
use Rattle.grouping_chart.proofs.SettingsLaws.{in_ranges}
use Rattle.grouping_chart.proofs.UnsignedLaws.{unsigned_permitted}
use Rattle.call_colour.proofs.UnsignedLaws as colour
use Rattle.call_lesson.specs.Lesson.{Stretches, Pair, pair_end, pairs, count_refusal, lesson_verdict}
use Rattle.call_lesson.specs.Call.{Memory, answers_short, filled, lesson_outcome}

pub lesson_unsigned : (s : Settings) → Permitted s → (c : Chart) (l : Stretches) (m : Memory) → lesson_outcome s c l m ≡ lesson_outcome (unsigned s) c l m
unfolding lesson_outcome filled
lesson_unsigned s p c l m =
    let r = in_ranges p in
    let same = p ∙ sym (unsigned_permitted s p) in
    λ i.
    answered
    (lesson_verdict (verdict c (and_then (count_refusal l)
    (and_then (short_refusal (answers_short c l m) (size c) (length m.colour.work) (length m.colour.scratch)) (same i)))) c.kinds l)
    tt
    (record {
      colour = colour.filled_unsigned r i c.kinds c.ratios m.colour;
      mean = over (map (λ (q : Pair). colour.mean_unsigned r i c q.0 (pair_end q)) (pairs l)) m.mean;
      tenths = over (map (λ (q : Pair). colour.tenths_unsigned r i c q.0 (pair_end q)) (pairs l)) m.tenths;
    })
    m
