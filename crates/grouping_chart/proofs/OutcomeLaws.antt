-- The verdict on a call, what it refuses after its chart, and the two cases of what it comes to. The calls cite these.
use mathlib.Core.Path.{◌≡◌, sym, ◌∙◌}
use mathlib.Core.Bool.{false}
use mathlib.Core.List.{List}
use Prim.Native.Nat.{ℕ, ◌*◌, ◌≤◌}
use Rattle.std.specs.Prelude.{Result, Ok, Err}
use Rattle.grouping_chart.specs.Chart.{Chart, size}
use Rattle.grouping_chart.specs.Refusal.{Check, passed, Verdict, accepted, refused, refused_or, and_then, verdict}
use Rattle.grouping_chart.specs.Room.{short_refusal, refusal_beside}
use Rattle.grouping_chart.specs.Settings.{Settings, settings_refusal, Permitted}
use Rattle.grouping_chart.specs.Outcome.{Outcome, outcome, refused_then, answered}
use Rattle.grouping_chart.specs.declared.refusal.Reason.{Reason}
use Rattle.grouping_chart.specs.declared.refusal.Refusal.{Refusal}
use Rattle.grouping_chart.proofs.AcceptedLaws.{GoodChart, accepted_good, none_refused, both_passed}
use Rattle.grouping_chart.proofs.RoomLaws.{AllLong, roomy, all_long, joined, short_joined}

-- the verdict, from what `judge` answered on the tests of the answer slices
pub judged-told : (s : Settings) (c : Chart) (answers : List ℕ) (work scratch : ℕ) {v u : Verdict}
    → v ≡ verdict c (and_then (short_refusal (joined (size c) false answers) (size c) work scratch) (settings_refusal s)) → v ≡ u
    → verdict c (refusal_beside s (size c) answers work scratch) ≡ u
judged-told s c answers work scratch e f = rw (← short_joined (size c) answers) (sym e ∙ f)

-- an accepted call: its chart and its settings are good, and every slice has room for its objects
pub record Accommodated (s : Settings) (c : Chart) (answers : List ℕ) (work scratch : ℕ) : Type 0 where
  pub chart : GoodChart c (refusal_beside s (size c) answers work scratch)
  pub permitted : Permitted s
  pub long : AllLong (size c) answers
  pub regions : 8 * size c ≤ work
  pub floats : size c ≤ scratch

pub accommodated : (s : Settings) (c : Chart) (answers : List ℕ) (work scratch : ℕ) → verdict c (refusal_beside s (size c) answers work scratch) ≡ accepted
    → Accommodated s c answers work scratch
accommodated s c answers work scratch h =
    let good = accepted_good c _ h in
    let both = both_passed _ _ good.room in
    let r = roomy _ (size c) work scratch both.0 in
    record { chart = good; permitted = both.1; long = all_long (size c) answers r.answered; regions = r.regions; floats = r.floats }

-- ---- what is refused after the chart

module _ {v : Verdict} (asked : Check) where
  pub chart-refused : {first : Refusal} → v ≡ Err first → refused_then v asked ≡ Err first
  unfolding refused_then
  chart-refused h = rw h

  pub nothing-refused : v ≡ accepted → asked ≡ passed → refused_then v asked ≡ accepted
  unfolding refused_then
  nothing-refused h e = rw (h, e)

  pub then-refused : {r : Reason} → v ≡ accepted → asked ≡ Err r → refused_then v asked ≡ refused r
  unfolding refused_then
  then-refused h e = rw (h, e)

-- and where all is accepted, nothing is refused of either
pub neither-refused : (v : Verdict) (asked : Check) → refused_then v asked ≡ accepted → (v ≡ accepted) × (asked ≡ passed)
unfolding refused_then
neither-refused v asked e =
    let both = both_passed v (refused_or asked 0 accepted) e in
    (both.0, (none_refused asked 0 accepted both.1).0)

-- ---- what a call comes to

module _ {Answer Memory : Type 0} {v : Verdict} (answer : Answer) (filled lent : Memory) where
  pub answered-refused : {first : Refusal} {r : Result Answer Refusal} → v ≡ Err first → r ≡ Err first → outcome r lent ≡ answered v answer filled lent
  unfolding answered
  answered-refused h e = rw (e, h)

  pub answered-done : {o : Outcome (Result Answer Refusal) Memory} → v ≡ accepted → o ≡ outcome (Ok answer) filled → o ≡ answered v answer filled lent
  unfolding answered
  answered-done h e = rw h e
