-- What is known of an accepted chart: its size, its lengths, and each of its objects; and that every chart of which this is known is accepted.
use mathlib.Core.Path.{◌≡◌, refl, sym, ◌∙◌}
use mathlib.Core.List.{List, [], ◌∷◌}
use mathlib.Core.Bool.{Bool, true, false, cond}
use Prim.Native.Nat.{ℕ, zero, suc, ◌+◌, ◌≤◌, ◌<◌}
use native.Mathlib.Omega.{arith}
use borrow.Author.Tests.{ltb-false, le-leb, leb-true, eqb-true}
use lib.Dec.{T, leb, ltb}
use denote.Floats.{passes, is_true}
use lib.ListN.{length, get_or}
use lib.Ieee.{Float, nan}
use Rattle.std.proofs.lemmas.Bool.{and_parts}
use Rattle.std.proofs.lemmas.List.{get_or_default}
use Rattle.lent.proofs.NeverLaws.{never}
use Rattle.std.specs.Prelude.{Result, Ok, Err}
use Rattle.grouping_chart.specs.declared.refusal.Reason.{Reason}
use Rattle.grouping_chart.specs.Chart.{Chart, equally_long}
use Rattle.grouping_chart.specs.Refusal.{Check, passed, kind_good, time_good, ratio_good, Verdict, accepted, refused, refused_or}
use Rattle.grouping_chart.specs.Refusal.{and_then, delta_refusal, object_order, first_refused, in_order, objects_verdict, verdict}
use Rattle.grouping_chart.specs.passes.Good.{SameLengths, all, all_good}
use Rattle.grouping_chart.proofs.AllLaws.{all_each}
use Rattle.grouping_chart.specs.declared.refusal.Refusal.{Refusal}
use Rattle.grouping_chart.proofs.RefusalLaws.{all_equal, verdict-objects, refused_before, passed_before}

-- an object that is not refused
pub record GoodObject (k : ℕ) (s d r : Float) : Type 0 where
  pub kind : k ≤ 2
  pub start : T (time_good s)
  pub delta : T (time_good d)
  pub ratio : T (ratio_good r)

-- a chart that is not refused, in a call of which nothing is refused beside it
pub record GoodChart (c : Chart) (beside : Check) : Type 0 where
  pub few : length c.kinds ≤ 16384
  pub room : beside ≡ passed
  pub lengths : SameLengths (length c.kinds) c.starts c.deltas c.ratios
  pub objects : (i : ℕ) (z : Float) → i < length c.kinds
      → GoodObject (get_or c.kinds i 0) (get_or c.starts i z) (get_or c.deltas i z) (get_or c.ratios i z)

-- ---- an object

-- an object that is not refused, where this is the test of its delta
pub record GoodBeside (k : ℕ) (s : Float) (d : Check) (r : Float) : Type 0 where
  pub kind : k ≤ 2
  pub start : T (time_good s)
  pub delta : d ≡ passed
  pub ratio : T (ratio_good r)

tests_passed : (a b d : Bool) (c : Check) (p q s : Reason) → cond a (cond b (and_then c (cond d passed (Err s))) (Err q)) (Err p) ≡ passed
    → (a ≡ true) × ((b ≡ true) × ((c ≡ passed) × (d ≡ true)))
tests_passed true true true (Ok done) p q s e = (refl, (refl, (refl, refl)))
tests_passed true true false (Ok done) p q s e = never (cc)
tests_passed true true d (Err r) p q s e = never (cc)
tests_passed true false d c p q s e = never (cc)
tests_passed false b d c p q s e = never (cc)

pub order_good : (k : ℕ) (s : Float) (delta : Check) (r : Float) → object_order k s delta r ≡ passed → GoodBeside k s delta r
unfolding object_order
order_good k s delta r e =
    let t = tests_passed (leb k 2) (time_good s) (ratio_good r) delta _ _ _ e in
    record { kind = leb-true k 2 t.0; start = passes _ t.1.0; delta = t.1.1.0; ratio = passes _ t.1.1.1 }

pub good_order : {k : ℕ} {s : Float} {delta : Check} {r : Float} → GoodBeside k s delta r → object_order k s delta r ≡ passed
unfolding object_order
good_order {k} {s} {delta} {r} g = rw (le-leb k 2 g.kind, is_true (time_good s) g.start, g.delta, is_true (ratio_good r) g.ratio)

-- a test that passes, where it refuses by this reason if it does not
pub test_passed : (b : Bool) (r : Reason) → cond b passed (Err r) ≡ passed → b ≡ true
test_passed true r e = refl
test_passed false r e = never (cc)

-- two tests, or verdicts, of which the second is made where the first passes
pub both_passed : {Why : Type 0} (first later : Result (Unit {0}) Why) → and_then first later ≡ Ok tt → (first ≡ Ok tt) × (later ≡ Ok tt)
both_passed (Ok done) later e = (refl, e)
both_passed (Err r) later e = never (cc)

beside_delta : {k : ℕ} {s d r : Float} → GoodBeside k s (delta_refusal d) r → GoodObject k s d r
unfolding delta_refusal
beside_delta g = record { kind = g.kind; start = g.start; delta = passes _ (test_passed _ _ g.delta); ratio = g.ratio }

delta_beside : {k : ℕ} {s d r : Float} → GoodObject k s d r → GoodBeside k s (delta_refusal d) r
unfolding delta_refusal
delta_beside {d} g = record { kind = g.kind; start = g.start; delta = rw (is_true (time_good d) g.delta) refl; ratio = g.ratio }

-- ---- all objects

-- an accepted verdict after a test that refuses where it fails, after one that refuses where it holds, and after a reason
test_held : (b : Bool) (later : Verdict) (r : Reason) → cond b later (refused r) ≡ accepted → (b ≡ true) × (later ≡ accepted)
test_held true later r e = (refl, e)
test_held false later r e = never (cc)

test_failed : (b : Bool) (later : Verdict) (r : Reason) → cond b (refused r) later ≡ accepted → (b ≡ false) × (later ≡ accepted)
test_failed true later r e = never (cc)
test_failed false later r e = (refl, e)

pub none_refused : (asked : Check) (place : ℕ) (later : Verdict) → refused_or asked place later ≡ accepted → (asked ≡ passed) × (later ≡ accepted)
none_refused (Ok done) place later e = (refl, e)
none_refused (Err r) place later e = never (cc)

module _ {A : Type 0} (test : A → Check) where
  pub objects_good : (j : ℕ) (ks : List ℕ) (ss : List Float) (ds : List A) (rs : List Float) → SameLengths (length ks) ss ds rs
      → first_refused test j ks ss ds rs ≡ accepted
      → (i : ℕ) (y : A) (z : Float) → i < length ks → GoodBeside (get_or ks i 0) (get_or ss i z) (test (get_or ds i y)) (get_or rs i z)
  unfolding first_refused
  objects_good j [] ss ds rs same e i y z h = absurd (omega arith)
  objects_good j (k ∷ ks) [] ds rs same e i y z h = absurd (omega (arith, same.start))
  objects_good j (k ∷ ks) (s ∷ ss) [] rs same e i y z h = absurd (omega (arith, same.delta))
  objects_good j (k ∷ ks) (s ∷ ss) (d ∷ ds) [] same e i y z h = absurd (omega (arith, same.ratio))
  objects_good j (k ∷ ks) (s ∷ ss) (d ∷ ds) (r ∷ rs) same e zero y z h =
      order_good k s (test d) r (none_refused (object_order k s (test d) r) _ _ e).0
  objects_good j (k ∷ ks) (s ∷ ss) (d ∷ ds) (r ∷ rs) same e (suc i) y z h =
      let later : SameLengths (length ks) ss ds rs = record { start = omega arith; delta = omega arith; ratio = omega arith } in
      objects_good (j + 1) ks ss ds rs later (none_refused (object_order k s (test d) r) _ _ e).1 i y z (omega arith)

  pub good_objects : (j : ℕ) (ks : List ℕ) (ss : List Float) (ds : List A) (rs : List Float)
      → ((i : ℕ) (y : A) (z : Float) → i < length ks → GoodBeside (get_or ks i 0) (get_or ss i z) (test (get_or ds i y)) (get_or rs i z))
      → first_refused test j ks ss ds rs ≡ accepted
  unfolding first_refused
  good_objects j [] ss ds rs g = refl
  good_objects j (k ∷ ks) [] ds rs g = refl
  good_objects j (k ∷ ks) (s ∷ ss) [] rs g = refl
  good_objects j (k ∷ ks) (s ∷ ss) (d ∷ ds) [] g = refl
  good_objects j (k ∷ ks) (s ∷ ss) (d ∷ ds) (r ∷ rs) g =
      let here : object_order k s (test d) r ≡ passed = good_order (g 0 d nan (omega arith)) in
      let later : first_refused test (j + 1) ks ss ds rs ≡ accepted = good_objects (j + 1) ks ss ds rs (λ i y z h. g (suc i) y z (omega arith)) in
      rw here later

-- all lists are good where each is
pub lists_good : (c : Chart) → all kind_good c.kinds ≡ true → all time_good c.starts ≡ true → all time_good c.deltas ≡ true
    → all ratio_good c.ratios ≡ true → all_good c ≡ true
unfolding all_good
lists_good c a b d e = rw (a, b, d, e)

-- where all lists are good no object is refused
pub all_good_accepted : (c : Chart) → SameLengths (length c.kinds) c.starts c.deltas c.ratios → all_good c ≡ true → accepted ≡ objects_verdict c
unfolding all_good
all_good_accepted c same e =
    let k = and_parts _ _ e in
    let s = and_parts _ _ k.1 in
    let d = and_parts _ _ s.1 in
    sym (good_objects delta_refusal 0 c.kinds c.starts c.deltas c.ratios (λ i y z h. delta_beside (record {
      kind = leb-true _ 2 (all_each kind_good c.kinds k.0 i 0 h);
      start = passes _ (all_each time_good c.starts s.0 i z (omega (arith, same.start)));
      delta = passes _ (all_each time_good c.deltas d.0 i y (omega (arith, same.delta)));
      ratio = passes _ (all_each ratio_good c.ratios d.1 i z (omega (arith, same.ratio)));
    })))

-- ---- the chart

all_three : (a b c : Bool) → cond a (cond b c false) false ≡ true → (a ≡ true) × ((b ≡ true) × (c ≡ true))
all_three true true c e = (refl, (refl, e))
all_three true false c e = never (cc)
all_three false b c e = never (cc)

pub equal-lengths : (c : Chart) → equally_long c ≡ true → SameLengths (length c.kinds) c.starts c.deltas c.ratios
unfolding equally_long
equal-lengths c e =
    let t = all_three _ _ _ e in
    record { start = eqb-true _ _ t.0; delta = eqb-true _ _ t.1.0; ratio = eqb-true _ _ t.1.1 }

-- no test refuses, of those that a call makes in their order
pub record AllPassed (large equal : Bool) (beside : Check) (objects : Verdict) : Type 0 where
  pub few : large ≡ false
  pub same : equal ≡ true
  pub none : beside ≡ passed
  pub good : objects ≡ accepted

pub all_passed : (large equal : Bool) (beside : Check) (objects : Verdict) → in_order large equal beside objects ≡ accepted
    → AllPassed large equal beside objects
all_passed large equal beside objects e =
    let few = test_failed _ _ _ e in
    let same = test_held _ _ _ few.1 in
    let none = none_refused _ _ _ same.1 in
    record { few = few.0; same = same.0; none = none.0; good = none.1 }

pub accepted_good : (c : Chart) (beside : Check) → verdict c beside ≡ accepted → GoodChart c beside
unfolding verdict
accepted_good c beside e =
    let p = all_passed _ (equally_long c) beside _ e in
    let same = equal-lengths c p.same in
    record {
      few = ltb-false _ _ p.few;
      room = p.none;
      lengths = same;
      objects = λ i z h. beside_delta (objects_good delta_refusal 0 _ _ _ _ same p.good i z z h);
    }

pub good_accepted : {c : Chart} {beside : Check} → GoodChart c beside → verdict c beside ≡ accepted
good_accepted {c} {beside} g =
    verdict-objects c beside g.few (sym (all_equal c g.lengths)) g.room
    ∙ good_objects delta_refusal 0 _ _ _ _ (λ i y z h. rw (get_or_default c.deltas i y z (omega (arith, g.lengths.delta))) (delta_beside (g.objects i z h)))

-- ---- the verdict from the tests before the objects, as `before_objects` answered them

module _ (c : Chart) (beside : Check) {equal : Bool} {v : Verdict} (e : equal ≡ equally_long c)
    (told : v ≡ in_order (ltb 16384 (length c.kinds)) equal beside accepted) where
  pub told_first : {first : Refusal} → v ≡ Err first → verdict c beside ≡ Err first
  unfolding verdict
  told_first h = rw (← e) (refused_before _ equal beside (objects_verdict c) (sym told ∙ h))

  pub told_none : v ≡ accepted → (SameLengths (length c.kinds) c.starts c.deltas c.ratios) × (verdict c beside ≡ objects_verdict c)
  unfolding verdict
  told_none h =
      let taken = sym told ∙ h in
      (equal-lengths c (sym e ∙ (all_passed _ equal beside accepted taken).same), rw (← e) (passed_before _ equal beside (objects_verdict c) taken))
