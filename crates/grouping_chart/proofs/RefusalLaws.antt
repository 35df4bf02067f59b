-- The cases of the definitions of refusals 1 to 7: the proofs of functions that refuse cite these laws.
use mathlib.Core.Path.{◌≡◌, refl, sym, ap, ◌∙◌}
use mathlib.Core.Logic.{⊎_elim}
use mathlib.Core.List.{List, [], ◌∷◌}
use mathlib.Core.Bool.{Bool, true, false, cond}
use Prim.Native.Nat.{ℕ, zero, suc, ◌+◌, ◌≤◌, ◌<◌}
use native.Mathlib.Nat.{eq-or-lt_of_le}
use native.Mathlib.Numerals.{add-one}
use native.Mathlib.Omega.{arith}
use borrow.Author.Tests.{le-ltb, eq-eqb}
use lib.ListN.{length, drop, get_or, drop_of_length-le}
use lib.Seq.{drop-cons}
use lib.Ieee.{Float, nan}
use Rattle.lent.proofs.NeverLaws.{never}
use Rattle.std.specs.Prelude.{Ok, Err}
use Rattle.std.proofs.lemmas.Bool.{and_parts}
use Rattle.grouping_chart.specs.declared.refusal.Reason.{Reason}
use Rattle.grouping_chart.specs.declared.refusal.Reason.TheVariants.{UnknownKind, BadStart, BadDelta, BadRatio}
use Rattle.grouping_chart.specs.Chart.{Chart, equally_long}
use Rattle.grouping_chart.specs.Refusal.{Check, passed, kind_good, time_good, ratio_good, Verdict, accepted, refusal, refused_or}
use Rattle.grouping_chart.specs.Refusal.{and_then, delta_refusal, object_order, object_refusal, first_refused, in_order, objects_verdict, verdict}
use Rattle.grouping_chart.specs.declared.refusal.Refusal.{Refusal}
use Rattle.grouping_chart.specs.passes.Good.{SameLengths, all, first_at}

-- a good ratio may stand for another
pub refusal_ratio : (k : ℕ) (s d r r' : Float) → ratio_good r ≡ true → ratio_good r' ≡ true → object_refusal k s d r ≡ object_refusal k s d r'
unfolding object_refusal object_order
refusal_ratio k s d r r' e f = rw (e, f)

-- ---- the first refused object from object i on: it is i, or it stands later, or there is none

module _ {A : Type 0} (test : A → Check) (kinds : List ℕ) (starts : List Float) (deltas : List A) (ratios : List Float) (i : ℕ) (y : A) (z : Float)
    (same : SameLengths (length kinds) starts deltas ratios) where
  pub first_from : (asked : Check) → i < length kinds
      → asked ≡ object_order (get_or kinds i 0) (get_or starts i z) (test (get_or deltas i y)) (get_or ratios i z)
      → first_refused test i (drop i kinds) (drop i starts) (drop i deltas) (drop i ratios)
      ≡ refused_or asked i (first_refused test (i + 1) (drop (i + 1) kinds) (drop (i + 1) starts) (drop (i + 1) deltas) (drop (i + 1) ratios))
  unfolding first_refused
  first_from asked h e =
      let in-starts : i < length starts = omega arith in
      let in-deltas : i < length deltas = omega arith in
      let in-ratios : i < length ratios = omega arith in
      rw (drop-cons kinds i 0 h, drop-cons starts i z in-starts, drop-cons deltas i y in-deltas, drop-cons ratios i z in-ratios, ← e, add-one i)

pub first_none : {A : Type 0} (test : A → Check) (kinds : List ℕ) (starts : List Float) (deltas : List A) (ratios : List Float) (i : ℕ) → length kinds ≤ i
    → accepted ≡ first_refused test i (drop i kinds) (drop i starts) (drop i deltas) (drop i ratios)
unfolding first_refused
first_none test kinds starts deltas ratios i h = rw (drop_of_length-le kinds h)

later_step : (v : Verdict) (check : Check) (i : ℕ) (later : Verdict)
    → and_then (and_then v (refused_or check i accepted)) later ≡ and_then v (refused_or check i later)
later_step (Ok done) (Ok good) i later = refl
later_step (Ok done) (Err reason) i later = refl
later_step (Err first) check i later = refl

later_none : (v : Verdict) → v ≡ and_then v accepted
later_none (Ok done) = refl
later_none (Err first) = refl

module _ (checks : ℕ → Check) where
  -- the first that does not pass ends the search, however many are left
  pub next_refused : {reason : Reason} (n m : ℕ) → n < m → accepted ≡ first_at checks n → Err reason ≡ checks n → Err (refusal reason n) ≡ first_at checks m
  unfolding first_at
  next_refused n zero h e f = absurd (omega arith)
  next_refused {reason} n (suc m) h e f =
      ⊎_elim (λ k. rw (← k, ← e, ← f)) (λ k. rw (← next_refused n m k e f)) (eq-or-lt_of_le (omega arith))

-- by the places: what is refused among the first n, then what is left of a recursion that makes the tests in this order
module _ (checks : ℕ → Check) (from : ℕ → Verdict) (n : ℕ) (turn : (i : ℕ) → i < n → from i ≡ refused_or (checks i) i (from (i + 1)))
    (end : accepted ≡ from n) where
  so_far : (i : ℕ) → i ≤ n → and_then (first_at checks i) (from i) ≡ from 0
  unfolding first_at
  so_far zero h = refl
  so_far (suc i) h =
      let step : from i ≡ refused_or (checks i) i (from (suc i)) = rw add-one at (turn i (omega arith)) in
      later_step (first_at checks i) (checks i) i (from (suc i)) ∙ ap (and_then (first_at checks i)) (sym step) ∙ so_far i (omega arith)

  pub by-places : first_at checks n ≡ from 0
  by-places = later_none (first_at checks n) ∙ ap (and_then (first_at checks n)) end ∙ so_far n (omega arith)

-- of objects
module _ {A : Type 0} (test : A → Check) (kinds : List ℕ) (starts : List Float) (deltas : List A) (ratios : List Float) (y : A) (z : Float)
    (same : SameLengths (length kinds) starts deltas ratios)
    (checks : ℕ → Check) (each : (i : ℕ) → i < length kinds
    → checks i ≡ object_order (get_or kinds i 0) (get_or starts i z) (test (get_or deltas i y)) (get_or ratios i z)) where
  pub first-places : first_at checks (length kinds) ≡ first_refused test 0 kinds starts deltas ratios
  first-places =
      by-places checks (λ i. first_refused test i (drop i kinds) (drop i starts) (drop i deltas) (drop i ratios)) (length kinds)
      (λ i h. first_from test kinds starts deltas ratios i y z same (checks i) h (each i h))
      (first_none test kinds starts deltas ratios (length kinds) (omega arith))

-- of a chart
module _ (c : Chart) (same : SameLengths (length c.kinds) c.starts c.deltas c.ratios) where
  pub chart-places : {checks : ℕ → Check} → ((i : ℕ) → i < length c.kinds
      → checks i ≡ object_refusal (get_or c.kinds i 0) (get_or c.starts i nan) (get_or c.deltas i nan) (get_or c.ratios i nan))
      → first_at checks (length c.kinds) ≡ objects_verdict c
  unfolding object_refusal
  chart-places each = first-places delta_refusal c.kinds c.starts c.deltas c.ratios nan nan same _ each

-- ---- where all ratios are good, no object is refused for its ratio

abbrev pub NotRatio : Verdict → Type 0
NotRatio (Ok done) = Unit {0}
NotRatio (Err f) = f.reason ≡ BadRatio → ⊥

pub neither_ratio : (b : Bool) (v w : Verdict) → NotRatio v → NotRatio w → NotRatio (cond b v w)
neither_ratio true v w p q = p
neither_ratio false v w p q = q

other_reason : (k s d : Bool) (i : ℕ) (later : Verdict) → NotRatio later
    → NotRatio (refused_or (cond k (cond s (and_then (cond d passed (Err BadDelta)) passed) (Err BadStart)) (Err UnknownKind)) i later)
other_reason true true true i later l = l
other_reason true true false i later l = λ e. never (cc)
other_reason true false d i later l = λ e. never (cc)
other_reason false s d i later l = λ e. never (cc)

object_not_ratio : (k : ℕ) (s d r : Float) → ratio_good r ≡ true → (i : ℕ) (later : Verdict) → NotRatio later
    → NotRatio (refused_or (object_order k s (delta_refusal d) r) i later)
unfolding object_order delta_refusal
object_not_ratio k s d r g i later l = rw g (other_reason (kind_good k) (time_good s) (time_good d) i later l)

pub objects_not_ratio : (i : ℕ) (kinds : List ℕ) (starts deltas ratios : List Float) → all ratio_good ratios ≡ true
    → NotRatio (first_refused delta_refusal i kinds starts deltas ratios)
unfolding first_refused all
objects_not_ratio i [] ss ds rs g = tt
objects_not_ratio i (k ∷ ks) [] ds rs g = tt
objects_not_ratio i (k ∷ ks) (s ∷ ss) [] rs g = tt
objects_not_ratio i (k ∷ ks) (s ∷ ss) (d ∷ ds) [] g = tt
objects_not_ratio i (k ∷ ks) (s ∷ ss) (d ∷ ds) (r ∷ rs) g =
    let t = and_parts _ _ g in
    object_not_ratio k s d r t.0 i _ (objects_not_ratio (i + 1) ks ss ds rs t.1)

-- ---- the chart's lengths

module _ (c : Chart) where
  pub all_equal : SameLengths (length c.kinds) c.starts c.deltas c.ratios → true ≡ equally_long c
  unfolding equally_long
  all_equal s = rw (eq-eqb _ _ s.start, eq-eqb _ _ s.delta, eq-eqb _ _ s.ratio)

-- ---- the tests of a call in their order: the objects are tested where those before them pass

module _ (large equal : Bool) (beside : Check) (objects : Verdict) where
  pub refused_before : {first : Refusal} → in_order large equal beside accepted ≡ Err first → in_order large equal beside objects ≡ Err first
  refused_before e = by large equal beside e
    where
      by : (l q : Bool) (b : Check) {first : Refusal} → in_order l q b accepted ≡ Err first → in_order l q b objects ≡ Err first
      by true q b e = e
      by false false b e = e
      by false true (Ok done) e = never (cc)
      by false true (Err r) e = e

  pub passed_before : in_order large equal beside accepted ≡ accepted → in_order large equal beside objects ≡ objects
  passed_before e = by large equal beside e
    where
      by : (l q : Bool) (b : Check) → in_order l q b accepted ≡ accepted → in_order l q b objects ≡ objects
      by true q b e = never (cc)
      by false false b e = never (cc)
      by false true (Ok done) e = refl
      by false true (Err r) e = never (cc)

-- ---- a call's verdict

module _ (c : Chart) (beside : Check) where
  pub verdict-objects : length c.kinds ≤ 16384 → equally_long c ≡ true → beside ≡ passed → verdict c beside ≡ objects_verdict c
  unfolding verdict
  verdict-objects h e n = rw (le-ltb _ _ h, e, n)
