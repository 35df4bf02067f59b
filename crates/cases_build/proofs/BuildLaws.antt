-- What build hands back on the lent slices is what its definition gives on slices full of sentinels.
use mathlib.Core.Path.{◌≡◌, ap, ◌∙◌}
use mathlib.Core.List.{List}
use Rattle.std.specs.Prelude.{Some}
use mathlib.Core.Bool.{Bool}
use Prim.Native.Nat.{ℕ, ◌+◌, ◌-◌, ◌*◌}
use lib.ListN.{take, drop, replicate}
use lib.Ieee.{Float, binary64, of_bits}
use Rattle.lent.specs.Over.{over}
use Rattle.lent.proofs.OverLaws.{lent-part}
use Rattle.call_build.specs.Build.{Raw}
use Rattle.call_build.specs.Call.{Memory, largest_raw, build_outcome}
use Rattle.vectors.specs.Case.{words}
use Rattle.vectors.specs.Held.{Tells}
use Rattle.vectors.specs.Table.{floats}
use Rattle.vectors.specs.declared.call.Call.TheVariants.{Build}
use Rattle.vectors.specs.declared.case.Head.{Head}
use Rattle.vectors.specs.Sentinel.{byte_sentinel, float_sentinel}
use Rattle.vectors.specs.passes.Room.{most_places, Few}
use Rattle.vectors.proofs.TableLaws.{floats_front}
use Rattle.vectors.proofs.TellsLaws.{tells_of}
use Rattle.vectors.proofs.SentinelLaws.{bytes-lent, floats-lent}
use Rattle.cases_build.specs.Build.{stored_rate, stored_raw, build_lent, BuildStored, BuildHolds}

-- ---- the raw objects and the slices, as fronts of what the code makes

-- the times, read over zeros
abbrev read_times : ℕ → List ℕ → List Float
read_times m body = over (floats (words body (10 + m) m)) (replicate largest_raw (of_bits binary64 0))

abbrev made_raw : ℕ → List ℕ → List Float → Raw
made_raw m body times = record { kinds = take (10 + m - 10) (drop 10 body); times = take m times }

abbrev made_memory : ℕ → ℕ → Memory
made_memory n spare =
    let floats : List Float = take (n + spare) (replicate most_places float_sentinel) in
    record { kind = take (n + spare) (replicate most_places byte_sentinel); start = floats; delta = floats; ratio = floats }

module _ {n spare : ℕ} (few : Few n spare) (m : ℕ) (body : List ℕ) {times : List Float} (e : times ≡ read_times m body) where
  raw_is : made_raw m body times ≡ stored_raw m body
  unfolding stored_raw
  raw_is =
      let read : take m times ≡ floats (words body (10 + m) m) = ap (take m) e ∙ floats_front body (10 + m) m _ in
      rw (lent-part 10 m body, read)

  memory_is : made_memory n spare ≡ build_lent n spare
  unfolding build_lent
  memory_is = rw (bytes-lent few, floats-lent few)

  pub made_told : {rate : Float} {r : Bool} → rate ≡ stored_rate body
      → Tells r (BuildStored n (drop (10 + 9 * m) body) (build_outcome rate (made_raw m body times) (made_memory n spare)))
      → Tells r (BuildStored n (drop (10 + 9 * m) body) (build_outcome (stored_rate body) (stored_raw m body) (build_lent n spare)))
  made_told q t = tells_of (BuildStored n (drop (10 + 9 * m) body)) (λ i. build_outcome (q i) (raw_is i) (memory_is i)) t

-- ---- the case

pub build_call : (h : Head) (body : List ℕ) (spare : ℕ) → BuildHolds h body spare → h.call ≡ Some Build
unfolding BuildHolds
build_call h body spare p = p.form.form.asked
