-- What an example asks, and what the definitions that the promises cite answer, as lists of numbers: an f64 as its
-- bits.
use Rattle.std.specs.Prelude.{ℕ, ◌+◌, ◌*◌, List, [], ◌∷◌, map, pos, length, replicate, Float}
use Rattle.std.specs.Float.{binary64}
use Rattle.std.specs.Float.Ieee.{of_int, to_bits}
use Rattle.numeric.specs.RoundTiesEven.{round_ties_even}
use Rattle.grouping_marks.specs.Marks.{group_numbers}
use Rattle.grouping_chart.specs.Chart.{Chart}
use Rattle.grouping_chart.specs.Refusal.{reason_number}
use Rattle.grouping_chart.specs.declared.refusal.Refusal.{Refusal}
use Rattle.grouping_chart.specs.Outcome.{Outcome}
use Rattle.grouping_chart.specs.Settings.{base_settings}
use Rattle.call_encode.specs.Call as encode
use Rattle.grouping_interval.specs.IntervalGrouping.{interval_marks}
use Rattle.grouping_normalizer.specs.Normalizer.{normalized}
use Rattle.call_rhythm.specs.Call as rhythm
use Rattle.call_rhythm.specs.declared.GroupTotals.{GroupTotals}
use Rattle.std.specs.Prelude.{Option, Some, Result, Ok, Err}
use Rattle.call_colour.specs.Call as calls
use Rattle.evaluator_rhythm.specs.RepeatedInterval.{walk_penalty}

pub data Question : Type 0 where
  -- encode of a chart with these kinds
  encoded : List ℕ → Question
  -- colour of a chart with these kinds
  coloured : List ℕ → Question
  -- rhythm of a chart with these kinds
  rhythmed : List ℕ → Question
  -- the rhythm groups of notes with these deltas, whole milliseconds
  grouped : List ℕ → Question
  -- what these deltas normalise to
  normal : List ℕ → Question
  -- and that rounded to whole
  wholes : List ℕ → Question
  -- the walk over 3 groups with these own intervals, the newest first
  walked : List ℕ → Question

-- a whole number of milliseconds
unfoldable pub whole : ℕ → Float
whole n = of_int binary64 (pos n)

unfoldable pub bits_of : List Float → List ℕ
bits_of values = map (to_bits binary64) values

-- starts and deltas 0.0, ratios 1.0
unfoldable pub plain_chart : List ℕ → Chart
plain_chart kinds = record {
  kinds = kinds;
  starts = replicate (length kinds) (whole 0);
  deltas = replicate (length kinds) (whole 0);
  ratios = replicate (length kinds) (whole 1);
}

-- a place more than n objects need in every slice, none of them 0 before the call
unfoldable pub encode_memory : ℕ → encode.Memory
encode_memory n = record {
  streak = replicate (n + 1) 77;
  streak_place = replicate (n + 1) 77;
  pattern = replicate (n + 1) 77;
  pattern_place = replicate (n + 1) 77;
  hit = replicate (n + 1) 77;
  interval = replicate (n + 1) 77;
  work = replicate (8 * n + 1) 77;
  scratch = replicate (n + 1) (whole 1);
}

unfoldable pub colour_memory : ℕ → calls.Memory
colour_memory n = record {
  value = replicate (n + 1) (whole 1);
  work = replicate (8 * n + 1) 77;
  scratch = replicate (n + 1) (whole 1);
}

unfoldable pub rhythm_memory : ℕ → rhythm.Memory
rhythm_memory n = record {
  group = replicate (n + 1) 77;
  pattern = replicate (n + 1) 77;
  work = replicate (8 * n + 1) 77;
  scratch = replicate (n + 1) (whole 1);
}

-- 0 and the number of hit patterns, or the refusal and its place
unfoldable pub encode_answer : Result ℕ Refusal → List ℕ
encode_answer (Ok hits) = 0 ∷ hits ∷ []
encode_answer (Err first) = reason_number first.reason ∷ first.place ∷ []

unfoldable pub colour_answer : Result (Unit {0}) Refusal → List ℕ
colour_answer (Ok done) = 0 ∷ []
colour_answer (Err first) = reason_number first.reason ∷ first.place ∷ []

-- 0 and how many groups and pattern groups there are, or the refusal and its place
unfoldable pub rhythm_answer : Result GroupTotals Refusal → List ℕ
rhythm_answer (Ok totals) = 0 ∷ totals.groups ∷ totals.patterns ∷ []
rhythm_answer (Err first) = reason_number first.reason ∷ first.place ∷ []

unfoldable pub encode_shown : Outcome (Result ℕ Refusal) encode.Memory → List (List ℕ)
encode_shown o =
    encode_answer o.answer ∷ o.memory.streak ∷ o.memory.streak_place ∷ o.memory.pattern ∷ o.memory.pattern_place
    ∷ o.memory.hit ∷ o.memory.interval ∷ o.memory.work ∷ bits_of o.memory.scratch ∷ []

unfoldable pub colour_shown : Outcome (Result (Unit {0}) Refusal) calls.Memory → List (List ℕ)
colour_shown o =
    colour_answer o.answer ∷ bits_of o.memory.value ∷ o.memory.work ∷ bits_of o.memory.scratch ∷ []

unfoldable pub rhythm_shown : Outcome (Result GroupTotals Refusal) rhythm.Memory → List (List ℕ)
rhythm_shown o =
    rhythm_answer o.answer ∷ o.memory.group ∷ o.memory.pattern ∷ o.memory.work
    ∷ bits_of o.memory.scratch ∷ []

unfoldable pub millis : ℕ → Option Float
millis n = Some (whole n)

unfoldable pub answer : Question → List (List ℕ)
answer (encoded kinds) =
    encode_shown (encode.encode_outcome base_settings (plain_chart kinds) (encode_memory (length kinds)))
answer (coloured kinds) =
    colour_shown (calls.colour_outcome base_settings (plain_chart kinds) (colour_memory (length kinds)))
answer (rhythmed kinds) =
    rhythm_shown (rhythm.rhythm_outcome base_settings (plain_chart kinds) (rhythm_memory (length kinds)))
answer (grouped deltas) = group_numbers (interval_marks base_settings.margin (map whole deltas)) ∷ []
answer (normal deltas) = bits_of (normalized base_settings.margin (map whole deltas)) ∷ []
answer (wholes deltas) = bits_of (map round_ties_even (normalized base_settings.margin (map whole deltas))) ∷ []
answer (walked owns) = bits_of (walk_penalty base_settings.threshold 3 (map millis owns) ∷ []) ∷ []
