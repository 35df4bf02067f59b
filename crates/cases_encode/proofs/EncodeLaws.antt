-- What encode hands back on the lent slices is what its definition gives on slices full of sentinels; and each of its parts is held to the case.
use mathlib.Core.Path.{◌≡◌}
use mathlib.Core.List.{List}
use Rattle.std.specs.Prelude.{Some}
use mathlib.Core.Bool.{Bool}
use Prim.Native.Nat.{ℕ, ◌+◌, ◌-◌, ◌*◌, ◌≤◌}
use native.Mathlib.Omega.{arith}
use lib.ListN.{length, take, drop, replicate}
use lib.Ieee.{Float}
use Rattle.lent.proofs.OverLaws.{lent-part}
use Rattle.grouping_chart.specs.Chart.{Chart, largest}
use Rattle.grouping_chart.specs.Settings.{base_settings}
use Rattle.call_encode.specs.Call.{Memory, encode_outcome}
use Rattle.vectors.specs.Held.{Tells}
use Rattle.vectors.specs.declared.call.Call.TheVariants.{Encode}
use Rattle.vectors.specs.declared.case.Head.{Head}
use Rattle.vectors.specs.Sentinel.{number_sentinel, byte_sentinel, float_sentinel}
use Rattle.vectors.specs.passes.Room.{most_places, most_work, Few}
use Rattle.vectors.proofs.TellsLaws.{tells_of}
use Rattle.vectors.proofs.SentinelLaws.{code_one, ones_lent, numbers-lent, bytes-lent, work-lent, floats-lent}
use Rattle.cases_encode.specs.Encode.{encode_chart, encode_lent, EncodeStored, EncodeForm, EncodeHolds}

-- ---- the chart and the slices, as fronts of what the code makes

abbrev pub made_chart : ℕ → List ℕ → Chart
made_chart n body =
    let ones : List Float = take n (replicate largest code_one) in
    record { kinds = take (2 + n - 2) (drop 2 body); starts = ones; deltas = ones; ratios = ones }

abbrev made_memory : ℕ → ℕ → Memory
made_memory n spare =
    let numbers : List ℕ = take (n + spare) (replicate most_places number_sentinel) in
    record {
      streak = numbers;
      streak_place = numbers;
      pattern = numbers;
      pattern_place = numbers;
      hit = numbers;
      interval = take (n + spare) (replicate most_places byte_sentinel);
      work = take (8 * n + spare) (replicate most_work number_sentinel);
      scratch = take (n + spare) (replicate most_places float_sentinel);
    }

module _ {n spare : ℕ} (few : Few n spare) where
  pub chart_is : (body : List ℕ) → made_chart n body ≡ encode_chart n body
  unfolding encode_chart
  chart_is body = rw (lent-part 2 n body, ones_lent few)

  memory_is : made_memory n spare ≡ encode_lent n spare
  unfolding encode_lent
  memory_is = rw (numbers-lent few, bytes-lent few, work-lent few, floats-lent few)

  pub made_told : {size width : ℕ} {body : List ℕ} {r : Bool}
      → Tells r (EncodeStored size width n body (encode_outcome base_settings (made_chart n body) (made_memory n spare)))
      → Tells r (EncodeStored size width n body (encode_outcome base_settings (encode_chart n body) (encode_lent n spare)))
  made_told {size} {width} {body} t = tells_of (EncodeStored size width n body) (λ i. encode_outcome base_settings (chart_is body i) (memory_is i)) t

-- ---- the case

-- the kinds lie in a body of this form
pub form_room : (h : Head) (body : List ℕ) → EncodeForm h body → 2 + h.objects ≤ length body
unfolding EncodeForm
form_room h body f = omega (arith, f.whole)

pub encode_call : (h : Head) (body : List ℕ) (spare : ℕ) → EncodeHolds h body spare → h.call ≡ Some Encode
unfolding EncodeHolds EncodeForm
encode_call h body spare p = p.form.asked
