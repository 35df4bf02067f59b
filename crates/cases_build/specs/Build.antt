-- When a stored case of build holds: on the raw objects that its bytes say and slices full of sentinels
-- the call's definition gives the original's answer.
use Rattle.std.specs.Prelude.{◌≡◌, List, map, ℕ, ◌+◌, ◌-◌, ◌*◌, length, drop, replicate, Float, Result, Ok}
use Rattle.std.specs.Float.{binary64}
use Rattle.std.specs.Float.Ieee.{to_bits, of_bits}
use Rattle.lent.specs.Over.{part}
use Rattle.grouping_chart.specs.Outcome.{Outcome}
use Rattle.grouping_chart.specs.declared.refusal.Refusal.{Refusal}
use Rattle.call_build.specs.Build.{Raw}
use Rattle.call_build.specs.Call.{Memory, build_outcome}
use Rattle.vectors.specs.Case.{pair_at, word_at, words}
use Rattle.vectors.specs.Held.{FrontHeld}
use Rattle.vectors.specs.Table.{floats}
use Rattle.vectors.specs.declared.call.Call.TheVariants.{Build}
use Rattle.vectors.specs.declared.case.Head.{Head}
use Rattle.vectors.specs.Form.{Formed, Holds}
use Rattle.vectors.specs.Sentinel.{byte_sentinel, float_sentinel, floats_lent}

-- ---- what is stored

-- how many raw objects there are
unfoldable pub raw_size : List ℕ → ℕ
raw_size body = pair_at body 0

-- behind their number stands the rate
unfoldable pub stored_rate : List ℕ → Float
stored_rate body = of_bits binary64 (word_at body 2)

-- and behind that the m kinds and the m times, in turn
unfoldable pub stored_raw : ℕ → List ℕ → Raw
stored_raw m body = record { kinds = part 10 m body; times = floats (words body (10 + m) m) }

-- ---- what is compared

-- so many places to spare in each slice
unfoldable pub build_lent : ℕ → ℕ → Memory
build_lent n spare = record {
  kind = replicate (n + spare) byte_sentinel;
  start = floats_lent n spare;
  delta = floats_lent n spare;
  ratio = floats_lent n spare;
}

-- n floats from a place on, by their bits, and the sentinel past them
abbrev pub FloatsHeld : List ℕ → ℕ → ℕ → List Float → Type 0
FloatsHeld stored at n got =
    FrontHeld (words stored at n) (to_bits binary64 float_sentinel) (map (to_bits binary64) got)

-- the stored chart of n objects: kinds, starts, deltas and ratios
pub record ChartHeld (n : ℕ) (stored : List ℕ) (m : Memory) : Type 0 where
  pub kinds : FrontHeld (part 0 n stored) byte_sentinel m.kind
  pub starts : FloatsHeld stored n n m.start
  pub deltas : FloatsHeld stored (9 * n) n m.delta
  pub ratios : FloatsHeld stored (17 * n) n m.ratio

-- n objects are built, and the slices hold the chart
pub record BuildStored (n : ℕ) (stored : List ℕ) (o : Outcome (Result ℕ Refusal) Memory) : Type 0 where
  pub answer : o.answer ≡ Ok n
  pub chart : ChartHeld n stored o.memory

-- ---- the case

-- the bytes of a build case of m raw objects, the first two of which build none
pub record BuildForm (m : ℕ) (h : Head) (body : List ℕ) : Type 0 where
  pub form : Formed Build 8 8 (10 + 9 * m + 25 * h.objects) h (length body)
  pub built : h.objects ≡ m - 2

unfoldable pub BuildHolds : Head → List ℕ → ℕ → Type 0
BuildHolds h body spare =
    let n : ℕ = h.objects in
    let m : ℕ = raw_size body in
    Holds n (BuildForm m h body)
    (BuildStored n (drop (10 + 9 * m) body) (build_outcome (stored_rate body) (stored_raw m body) (build_lent n spare)))
