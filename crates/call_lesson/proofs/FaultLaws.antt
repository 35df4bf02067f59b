-- A lesson that is refused for a pair: the place is that of the first pair whose stretch is refused, and the reason is that stretch's. The call stretch refuses
-- it so too, and none of those before it.
use mathlib.Core.Path.{◌≡◌, refl}
use mathlib.Core.List.{List, [], ◌∷◌}
use Prim.Native.Nat.{ℕ, zero, suc, ◌+◌, ◌<◌}
use native.Mathlib.Omega.{arith}
use lib.ListN.{length, get_or}
use Rattle.std.specs.Prelude.{Ok, Err}
use Rattle.grouping_chart.specs.Chart.{Chart}
use Rattle.grouping_chart.specs.Outcome.{outcome}
use Rattle.grouping_chart.specs.Settings.{Settings}
use Rattle.grouping_chart.specs.Refusal.{Check, passed, Verdict, accepted, refused_or, at_0}
use Rattle.grouping_chart.specs.declared.refusal.Reason.{Reason}
use Rattle.grouping_chart.specs.declared.refusal.Refusal.{Refusal}
use Rattle.call_colour.specs.Call as colour
use Rattle.call_colour.specs.Call.{stretch_outcome}
use Rattle.call_colour.proofs.AnswerLaws.{stretch-refused}
use Rattle.call_lesson.specs.Lesson.{Pair, pair_end, pair_refusal, first_pair_refused}

-- pair i is the first whose stretch is refused, and this is why
pub record FirstFaulty (kinds : List ℕ) (ps : List Pair) (i : ℕ) (why : Reason) : Type 0 where
  pub there : i < length ps
  pub refused : (d : Pair) → pair_refusal kinds (get_or ps i d) ≡ Err why
  pub before : (j : ℕ) (d : Pair) → j < i → pair_refusal kinds (get_or ps j d) ≡ passed

module _ (kinds : List ℕ) where
  later : (p : Pair) (ps : List Pair) {i : ℕ} {why : Reason} → pair_refusal kinds p ≡ passed → FirstFaulty kinds ps i why
      → FirstFaulty kinds (p ∷ ps) (suc i) why
  later p ps {i} e x = record { there = omega (arith, x.there); refused = x.refused; before = by }
    where
      by : (j : ℕ) (d : Pair) → j < suc i → pair_refusal kinds (get_or (p ∷ ps) j d) ≡ passed
      by zero d h = e
      by (suc j) d h = x.before j d (omega arith)

  -- what a verdict on pairs from number j on says
  abbrev Says : ℕ → List Pair → Verdict → Type 0
  Says j ps (Ok done) = Unit {0}
  Says j ps (Err f) = (k : ℕ) × ((f.place ≡ j + k) × FirstFaulty kinds ps k f.reason)

  behind : (j : ℕ) (p : Pair) (ps : List Pair) → pair_refusal kinds p ≡ passed → (v : Verdict) → Says (j + 1) ps v → Says j (p ∷ ps) v
  behind j p ps e (Ok done) t = tt
  behind j p ps e (Err f) t = (suc t.0, (omega (arith, t.1.0), later p ps e t.1.1))

  here : (j : ℕ) (p : Pair) (ps : List Pair) (asked : Check) → pair_refusal kinds p ≡ asked → (v : Verdict) → Says (j + 1) ps v
      → Says j (p ∷ ps) (refused_or asked j v)
  here j p ps (Ok done) e v t = behind j p ps e v t
  here j p ps (Err why) e v t =
      (0, (omega arith, record { there = omega arith; refused = λ d. e; before = λ i d h. absurd (omega arith) }))

  said : (j : ℕ) (ps : List Pair) → Says j ps (first_pair_refused kinds j ps)
  unfolding first_pair_refused
  said j [] = tt
  said j (p ∷ ps) = here j p ps (pair_refusal kinds p) refl (first_pair_refused kinds (j + 1) ps) (said (j + 1) ps)

  pub first_faulty : (ps : List Pair) {f : Refusal} → first_pair_refused kinds 0 ps ≡ Err f → FirstFaulty kinds ps f.place f.reason
  first_faulty ps {f} e =
      let t : Says 0 ps (Err f) = rw e at (said 0 ps) in
      let is : f.place ≡ t.0 = omega (arith, t.1.0) in
      rw is t.1.1

-- the call stretch on the first faulty pair
pub faulty_stretch : (s : Settings) (c : Chart) (m : colour.Memory) → colour.judged s c m ≡ accepted → {ps : List Pair} {i : ℕ} {why : Reason}
    → FirstFaulty c.kinds ps i why → (d : Pair)
    → stretch_outcome s c (get_or ps i d).0 (pair_end (get_or ps i d)) m ≡ outcome (Err (at_0 why)) m
faulty_stretch s c m taken x d = stretch-refused s c m taken _ _ (x.refused d)
