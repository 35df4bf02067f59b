-- What the call that is asked hands back on the lent slices is what its definition gives on slices full of sentinels;
-- and each of its parts is held to the case.
use mathlib.Core.Path.{◌≡◌, refl, ap}
use mathlib.Core.List.{List}
use Rattle.std.specs.Prelude.{Some, Result, Ok, Err, is_ok}
use mathlib.Core.Bool.{Bool}
use Prim.Native.Nat.{ℕ, ◌+◌, ◌*◌, ◌≤◌}
use native.Mathlib.Omega.{arith}
use lib.ListN.{length, take, replicate}
use lib.Ieee.{Float}
use Rattle.lent.specs.Over.{over}
use Rattle.lent.proofs.NeverLaws.{never}
use Rattle.grouping_chart.specs.Chart.{Chart}
use Rattle.grouping_chart.specs.Outcome.{Outcome}
use Rattle.grouping_chart.specs.Settings.{base_settings}
use Rattle.grouping_chart.specs.declared.refusal.Refusal.{Refusal}
use Rattle.call_colour.specs.Call.{Memory, colour_outcome, stretch_outcome}
use Rattle.call_colour.specs.declared.StretchMean.{StretchMean}
use Rattle.vectors.specs.Case.{pair_at, words}
use Rattle.vectors.specs.Held.{Tells}
use Rattle.vectors.specs.declared.call.Call.TheVariants.{Colour as ColourCall, Stretch}
use Rattle.vectors.specs.declared.case.Head.{Head}
use Rattle.vectors.specs.Sentinel.{number_sentinel, float_sentinel}
use Rattle.vectors.specs.passes.Room.{most_places, most_work, Few}
use Rattle.vectors.proofs.TableLaws.{entries_front}
use Rattle.vectors.proofs.TellsLaws.{denied, granted, tells_of}
use Rattle.vectors.proofs.SentinelLaws.{work-lent, floats-lent}
use Rattle.cases_colour.specs.Colour.{stored_ratios, colour_lent, MeanIs, Answers, leaves, CallStored}
use Rattle.cases_colour.specs.Colour.{ColourForm, ColourHolds, StretchHolds}
use Rattle.cases_colour.specs.passes.Told.{CallTold}
use Rattle.cases_colour.specs.declared.StoredStretch.{StoredStretch}
use Rattle.cases_colour.specs.declared.Asked.{Asked}
use Rattle.cases_colour.specs.declared.Asked.TheVariants as asked

-- ---- the answer of either call

pub colour-told : {r : Bool} (answer : Result (Unit {0}) Refusal) → r ≡ is_ok answer → Tells r (answer ≡ Ok tt)
colour-told (Ok done) e = rw e (granted refl)
colour-told (Err first) e = rw e (denied (λ h. never (cc)))

module _ {call : Asked} {c : Chart} {m : Memory} {r : Bool} where
  pub colour-answered : {o : Outcome (Result (Unit {0}) Refusal) Memory} → call ≡ asked.Colour → o ≡ colour_outcome base_settings c m
      → Tells r (o.answer ≡ Ok tt) → CallTold call c m o.memory r
  unfolding Answers leaves
  colour-answered a e t =
      let told = tells_of (λ (x : Outcome (Result (Unit {0}) Refusal) Memory). x.answer ≡ Ok tt) e t in
      rw a (record { told = told; memory = ap (λ (x : Outcome (Result (Unit {0}) Refusal) Memory). x.memory) e })

  pub stretch-answered : {o : Outcome (Result StretchMean Refusal) Memory} (s : StoredStretch) → call ≡ asked.Stretched s
      → o ≡ stretch_outcome base_settings c s.a s.b m → Tells r (MeanIs s o.answer) → CallTold call c m o.memory r
  unfolding Answers leaves
  stretch-answered s a e t =
      let told = tells_of (λ (x : Outcome (Result StretchMean Refusal) Memory). MeanIs s x.answer) e t in
      rw a (record { told = told; memory = ap (λ (x : Outcome (Result StretchMean Refusal) Memory). x.memory) e })

-- ---- the ratios and the slices, as fronts of what the code makes

-- the ratios that were read stand in front
pub ratios_front : (size width n : ℕ) (body : List ℕ) (old : List Float) → take n (over (stored_ratios size width n body) old) ≡ stored_ratios size width n body
unfolding stored_ratios
ratios_front size width n body old = entries_front body (2 + n) n old (words body (2 + n + size + 8 * n) (pair_at body 0)) width

abbrev pub made_memory : ℕ → ℕ → Memory
made_memory n spare = record {
  value = take (n + spare) (replicate most_places float_sentinel);
  work = take (8 * n + spare) (replicate most_work number_sentinel);
  scratch = take (n + spare) (replicate most_places float_sentinel);
}

module _ {n spare : ℕ} (few : Few n spare) where
  pub memory_is : made_memory n spare ≡ colour_lent n spare
  unfolding colour_lent
  memory_is = rw (floats-lent few, work-lent few)

  pub made_told : (size : ℕ) (body : List ℕ) {call : Asked} {r : Bool} {made chart : Chart} → made ≡ chart
      → Tells r (CallStored call size n body made (made_memory n spare))
      → Tells r (CallStored call size n body chart (colour_lent n spare))
  made_told size body {call} e t = tells_of (λ (p : Chart × Memory). CallStored call size n body p.0 p.1) (λ i. (e i, memory_is i)) t

-- ---- the cases

-- the kinds lie in a body of this form
pub form_room : (size : ℕ) (h : Head) (body : List ℕ) → ColourForm size h body → 2 + h.objects ≤ length body
unfolding ColourForm
form_room size h body f = omega (arith, f.whole)

pub colour_call : (h : Head) (body : List ℕ) (spare : ℕ) → ColourHolds h body spare → h.call ≡ Some ColourCall
unfolding ColourHolds ColourForm
colour_call h body spare p = p.form.asked

pub stretch_call : (chart : Head) (body : List ℕ) (h : Head) (part : List ℕ) (spare : ℕ) → StretchHolds chart body h part spare → h.call ≡ Some Stretch
unfolding StretchHolds
stretch_call chart body h part spare p = p.form.1.form.asked
