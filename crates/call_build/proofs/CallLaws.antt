-- The outcome of build, case by case, over plain lists: a refusal leaves all as lent, and an accepted call has room in every slice.
use mathlib.Core.Path.{◌≡◌, refl, sym, ◌∙◌}
use mathlib.Core.Bool.{false}
use mathlib.Core.List.{List}
use Prim.Native.Nat.{ℕ}
use native.Mathlib.Omega.{arith}
use lib.ListN.{length, take, drop}
use lib.Ieee.{Float}
use Rattle.std.specs.Prelude.{Ok}
use Rattle.lent.specs.Over.{over}
use Rattle.lent.proofs.OverLaws.{front}
use Rattle.lent.proofs.FillLaws.{length-tabulate}
use Rattle.grouping_chart.specs.Outcome.{outcome}
use Rattle.grouping_chart.specs.Refusal.{Check, passed, Verdict, accepted, verdict}
use Rattle.grouping_chart.proofs.RefusalLaws.{all_equal, verdict-objects}
use Rattle.grouping_chart.proofs.RoomLaws.{all_long, joined, short_joined}
use Rattle.grouping_chart.proofs.OutcomeLaws.{answered-done}
use Rattle.call_build.specs.Build.{Raw, delta_at, built_size, built_starts, built_deltas, built_chart}
use Rattle.call_build.specs.Call.{Memory, answer_lengths, verdict_of, judged, filled, chart_in, build_outcome}
use Rattle.call_build.specs.passes.Ratios.{ratios_from}
use Rattle.call_build.specs.passes.Room.{BuildRoom}
use Rattle.call_build.proofs.BuiltLaws.{ratios_of_built}
use Rattle.call_build.proofs.ChartLaws.{built-size, built-lengths}
use Rattle.call_build.proofs.VerdictLaws.{all_passed}

-- an accepted call has room
pub build_room : (rate : Float) (r : Raw) (m : Memory) → judged rate r m ≡ accepted → BuildRoom r m
build_room rate r m h =
    let p = all_passed rate r _ h in
    let l = all_long (built_size r) (answer_lengths m) p.long in
    record { kind = l.0; start = l.1.0; delta = l.1.1.0; ratio = l.1.1.1.0 }

-- and as many times as kinds
pub as-many-times : (rate : Float) (r : Raw) (m : Memory) → judged rate r m ≡ accepted → length r.times ≡ length r.kinds
as-many-times rate r m h = (all_passed rate r _ h).times

-- the verdict, from what `judge` answered on the tests of the answer slices
pub judged-told : (rate : Float) (r : Raw) (m : Memory) {n : ℕ} {v u : Verdict} → built_size r ≡ n → v ≡ verdict_of rate r (joined n false (answer_lengths m))
    → v ≡ u → judged rate r m ≡ u
judged-told rate r m {n} size f g = rw (size, ← short_joined n (answer_lengths m)) (sym f ∙ g)

module _ (rate : Float) (r : Raw) (m : Memory) {n : ℕ} (size : built_size r ≡ n) where
  -- the four lists, as the passes leave them, are the built chart's
  pub chart-filled : {kind : List ℕ} {start delta ratio : List Float} → kind ≡ over (drop 2 r.kinds) m.kind
      → start ≡ over (built_starts rate r.times n) m.start → delta ≡ over (built_deltas rate r.times n) m.delta
      → ratio ≡ over (ratios_from (take n delta)) m.ratio
      → ◌≡◌ {A = Memory} (record { kind = kind; start = start; delta = delta; ratio = ratio }) (filled (built_chart rate r) m)
  unfolding filled built_chart
  chart-filled a b c d =
      let deltas : take n (over (built_deltas rate r.times n) m.delta) ≡ built_deltas rate r.times n =
      front (built_deltas rate r.times n) m.delta n (length-tabulate (delta_at rate r.times) n) in
      rw (a, b, c, rw (c, deltas, ratios_of_built rate r n) at d, size) refl

  pub build-done : {new : Memory} → judged rate r m ≡ accepted → new ≡ filled (built_chart rate r) m → outcome (Ok n) new ≡ build_outcome rate r m
  unfolding build_outcome
  build-done h e = rw (← size) (answered-done _ _ m h (λ t. outcome (Ok (built_size r)) (e t)))

-- ---- what an accepted call wrote

module _ (rate : Float) (r : Raw) (m : Memory) (good : judged rate r m ≡ accepted) where
  left : (build_outcome rate r m).memory ≡ filled (built_chart rate r) m
  left = rw (← build-done rate r m refl good refl)

  -- its first n places are the built chart
  pub built-written : chart_in (built_size r) (build_outcome rate r m).memory ≡ built_chart rate r
  unfolding filled
  built-written =
      let c = built_chart rate r in
      let n = built_size r in
      let l = built-lengths rate r in
      let k = built-size rate r in
      rw (
        left,
        front c.kinds m.kind n k,
        front c.starts m.start n (l.start ∙ k),
        front c.deltas m.delta n (l.delta ∙ k),
        front c.ratios m.ratio n (l.ratio ∙ k),
      ) refl

  -- every other call accepts it, where nothing is refused beside it
  pub built-accepted : (beside : Check) → beside ≡ passed → verdict (chart_in (built_size r) (build_outcome rate r m).memory) beside ≡ accepted
  built-accepted beside e =
      let p = all_passed rate r _ good in
      rw built-written
      (verdict-objects (built_chart rate r) beside (omega (arith, p.few, built-size rate r)) (sym (all_equal _ (built-lengths rate r))) e ∙ p.objects)
