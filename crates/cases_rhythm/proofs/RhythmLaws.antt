-- What rhythm hands back on the lent slices is what its definition gives on slices full of sentinels.
use mathlib.Core.Path.{◌≡◌, ap, ◌∙◌}
use mathlib.Core.List.{List}
use Rattle.std.specs.Prelude.{Some}
use mathlib.Core.Bool.{Bool}
use Prim.Native.Nat.{ℕ, ◌+◌, ◌-◌, ◌*◌, ◌≤◌}
use native.Mathlib.Omega.{arith}
use lib.ListN.{length, take, drop, replicate}
use lib.Ieee.{Float, binary64, of_bits}
use Rattle.lent.proofs.OverLaws.{lent-part}
use Rattle.grouping_chart.specs.Chart.{Chart, largest}
use Rattle.grouping_chart.specs.Settings.{base_settings}
use Rattle.call_rhythm.specs.Call.{Memory, rhythm_outcome}
use Rattle.vectors.specs.Case.{words}
use Rattle.vectors.specs.Held.{Tells}
use Rattle.vectors.specs.Table.{floats}
use Rattle.vectors.specs.declared.call.Call.TheVariants.{Rhythm}
use Rattle.vectors.specs.declared.case.Head.{Head}
use Rattle.vectors.specs.Sentinel.{number_sentinel, float_sentinel}
use Rattle.vectors.specs.passes.Room.{most_places, most_work, Few}
use Rattle.vectors.proofs.TableLaws.{floats_front}
use Rattle.vectors.proofs.TellsLaws.{tells_of}
use Rattle.vectors.proofs.SentinelLaws.{code_one, ones_lent, numbers-lent, work-lent, floats-lent}
use Rattle.cases_rhythm.specs.Rhythm.{rhythm_chart, rhythm_lent, RhythmStored, RhythmForm, RhythmHolds}
use Rattle.cases_rhythm.specs.passes.Times.{TimesRead}

-- ---- the chart and the slices, as fronts of what the code makes

abbrev pub made_chart : ℕ → List ℕ → List Float → List Float → Chart
made_chart n body starts deltas =
    record { kinds = take (4 + n - 4) (drop 4 body); starts = take n starts; deltas = take n deltas; ratios = take n (replicate largest code_one) }

abbrev made_memory : ℕ → ℕ → Memory
made_memory n spare = record {
  group = take (n + spare) (replicate most_places number_sentinel);
  pattern = take (n + spare) (replicate most_places number_sentinel);
  work = take (8 * n + spare) (replicate most_work number_sentinel);
  scratch = take (n + spare) (replicate most_places float_sentinel);
}

abbrev pub zeros : List Float
zeros = replicate largest (of_bits binary64 0)

module _ {n spare : ℕ} (few : Few n spare) (body : List ℕ) {starts deltas : List Float} (x : TimesRead n body zeros starts zeros deltas) where
  pub chart_is : made_chart n body starts deltas ≡ rhythm_chart n body
  unfolding rhythm_chart
  chart_is =
      let s : take n starts ≡ floats (words body (4 + n) n) = ap (take n) x.starts ∙ floats_front body (4 + n) n zeros in
      let d : take n deltas ≡ floats (words body (4 + 9 * n) n) = ap (take n) x.deltas ∙ floats_front body (4 + 9 * n) n zeros in
      rw (lent-part 4 n body, ones_lent few, s, d)

  memory_is : made_memory n spare ≡ rhythm_lent n spare
  unfolding rhythm_lent
  memory_is = rw (numbers-lent few, work-lent few, floats-lent few)

  pub made_told : {r : Bool}
      → Tells r (RhythmStored n body (rhythm_outcome base_settings (made_chart n body starts deltas) (made_memory n spare)))
      → Tells r (RhythmStored n body (rhythm_outcome base_settings (rhythm_chart n body) (rhythm_lent n spare)))
  made_told t = tells_of (RhythmStored n body) (λ i. rhythm_outcome base_settings (chart_is i) (memory_is i)) t

-- ---- the case

-- the kinds lie in a body of this form
pub form_room : (h : Head) (body : List ℕ) → RhythmForm h body → 4 + h.objects ≤ length body
unfolding RhythmForm
form_room h body f = omega (arith, f.whole)

pub rhythm_call : (h : Head) (body : List ℕ) (spare : ℕ) → RhythmHolds h body spare → h.call ≡ Some Rhythm
unfolding RhythmHolds RhythmForm
rhythm_call h body spare p = p.form.asked
