-- A permitted set and the same set without signs give one outcome of encode: it uses the limit alone, and refuses the same.
use mathlib.Core.Path.{◌≡◌}
use Rattle.grouping_chart.specs.Chart.{Chart}
use Rattle.grouping_chart.specs.Outcome.{answered}
use Rattle.grouping_chart.specs.Settings.{Settings, Permitted, unsigned}
use Rattle.grouping_chart.proofs.SettingsLaws.{in_ranges}
use Rattle.grouping_chart.proofs.UnsignedLaws.{judged_unsigned}
use Rattle.grouping_preprocessor.specs.Preprocessor.{hit_count}
use Rattle.call_encode.specs.Call.{Memory, answer_lengths, filled, encode_outcome}

pub encode_unsigned : (s : Settings) → Permitted s → (c : Chart) (m : Memory) → encode_outcome s c m ≡ encode_outcome (unsigned s) c m
unfolding encode_outcome filled
encode_unsigned s p c m = λ i. answered (judged_unsigned (in_ranges p) i c (answer_lengths m) m.work m.scratch) (hit_count c.kinds) (filled s c m) m
