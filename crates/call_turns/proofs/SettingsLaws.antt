-- Turns comes to the same under all sets that are not refused: it uses none of their numbers. So too under a set without signs.
use mathlib.Core.Path.{◌≡◌, sym, ◌∙◌}
use lib.ListN.{length}
use Rattle.grouping_chart.specs.Chart.{Chart, size}
use Rattle.grouping_chart.specs.Outcome.{answered}
use Rattle.grouping_chart.specs.Refusal.{and_then, verdict}
use Rattle.grouping_chart.specs.Room.{any_short, short_refusal}
use Rattle.grouping_chart.specs.Settings.{Settings, Permitted, unsigned}
use Rattle.grouping_chart.proofs.UnsignedLaws.{unsigned_permitted}
use Rattle.call_turns.specs.Call.{Memory, answer_lengths, filled, turns_outcome}

pub turns_alike : (s t : Settings) → Permitted s → Permitted t → (c : Chart) (m : Memory) → turns_outcome s c m ≡ turns_outcome t c m
unfolding turns_outcome
turns_alike s t p q c m = λ i.
    answered
    (verdict c (and_then (short_refusal (any_short (size c) (answer_lengths m)) (size c) (length m.work) (length m.scratch)) ((p ∙ sym q) i)))
    tt (filled c.kinds m) m

pub turns_unsigned : (s : Settings) → Permitted s → (c : Chart) (m : Memory) → turns_outcome s c m ≡ turns_outcome (unsigned s) c m
turns_unsigned s p = turns_alike s (unsigned s) p (unsigned_permitted s p)
