-- The call encode (scope: calls): what it answers, and what every lent slice holds
-- afterwards.
use Rattle.std.specs.Prelude.{ℕ, List, [], ◌∷◌, length, Float, Result}
use Rattle.lent.specs.Over.{over}
use Rattle.grouping_chart.specs.Chart.{Chart, size}
use Rattle.grouping_chart.specs.Room.{cleared_work, cleared_scratch}
use Rattle.grouping_chart.specs.Outcome.{Outcome, judged_by, answered}
use Rattle.grouping_chart.specs.Settings.{Settings}
use Rattle.grouping_chart.specs.Refusal.{Verdict}
use Rattle.grouping_chart.specs.declared.refusal.Refusal.{Refusal}
use Rattle.grouping_colour.specs.MonoStreak.{streak_of}
use Rattle.grouping_preprocessor.specs.Preprocessor.{streak_place_of, alternating_of, pattern_place_of}
use Rattle.grouping_preprocessor.specs.Preprocessor.{hit_of, interval_of, hit_count}

-- the slices that are lent to be written: six answers and two work slices
pub record Memory : Type 0 where
  pub streak : List ℕ
  pub streak_place : List ℕ
  pub pattern : List ℕ
  pub pattern_place : List ℕ
  pub hit : List ℕ
  pub interval : List ℕ
  pub work : List ℕ
  pub scratch : List Float

-- the memory that is made of the eight slices, in the order in which they are lent
abbrev pub memory : List ℕ → List ℕ → List ℕ → List ℕ → List ℕ → List ℕ → List ℕ → List Float → Memory
memory streak streak_place pattern pattern_place hit interval work scratch = record {
  streak = streak;
  streak_place = streak_place;
  pattern = pattern;
  pattern_place = pattern_place;
  hit = hit;
  interval = interval;
  work = work;
  scratch = scratch;
}

-- how many places the answer slices have
abbrev pub answer_lengths : Memory → List ℕ
answer_lengths m =
    length m.streak ∷ length m.streak_place ∷ length m.pattern ∷ length m.pattern_place ∷ length m.hit
    ∷ length m.interval ∷ []

abbrev pub judged : Settings → Chart → Memory → Verdict
judged s c m = judged_by s c (answer_lengths m) m.work m.scratch

-- the memory once objects of these kinds are encoded under a search limit: the answers in the first n places, 0 in the
-- first 8 n places of the work slice, old contents elsewhere
unfoldable pub encoded_kinds : ℕ → List ℕ → Memory → Memory
encoded_kinds limit kinds m = record {
  streak = over (streak_of kinds) m.streak;
  streak_place = over (streak_place_of kinds) m.streak_place;
  pattern = over (alternating_of kinds) m.pattern;
  pattern_place = over (pattern_place_of kinds) m.pattern_place;
  hit = over (hit_of kinds) m.hit;
  interval = over (interval_of limit kinds) m.interval;
  work = cleared_work (length kinds) m.work;
  scratch = m.scratch;
}

-- the same memory, but for the scratch slice
abbrev pub with_scratch : Memory → List Float → Memory
with_scratch m =
    memory m.streak m.streak_place m.pattern m.pattern_place m.hit m.interval
    m.work

-- the memory of a pass that is lent no scratch slice
abbrev pub kinds_memory : List ℕ → List ℕ → List ℕ → List ℕ → List ℕ → List ℕ → List ℕ → Memory
kinds_memory streak streak_place pattern pattern_place hit interval work =
    memory streak streak_place pattern pattern_place hit
    interval work []

-- the memory after an accepted call: encoded, and +0.0 in the first n places of the scratch slice
unfoldable pub filled : Settings → Chart → Memory → Memory
filled s c m = with_scratch (encoded_kinds s.search_limit c.kinds m) (cleared_scratch (size c) m.scratch)

-- the number of hit patterns, or the first refusal that applies
unfoldable pub encode_outcome : Settings → Chart → Memory → Outcome (Result ℕ Refusal) Memory
encode_outcome s c m = answered (judged s c m) (hit_count c.kinds) (filled s c m) m
