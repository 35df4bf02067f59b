-- What is known of an accepted chart of ranges, and what the verdict on it needs: the list of ranges has at each place the two ends that stand there, so
-- that the laws of any chart's objects serve with a range for a delta.
use mathlib.Core.Path.{◌≡◌, refl, sym, ap, ◌∙◌}
use mathlib.Core.List.{List, [], ◌∷◌}
use mathlib.Core.Bool.{Bool, true, false, ◌&&◌, cond}
use Prim.Native.Nat.{ℕ, zero, suc, ◌≤◌, ◌<◌}
use native.Mathlib.Omega.{arith}
use borrow.Author.Tests.{ltb-false, leb-true, eqb-true}
use lib.Dec.{T, ltb}
use denote.Floats.{passes}
use lib.ListN.{length, get_or}
use lib.Ieee.{Float, nan, le}
use Rattle.std.specs.Prelude.{Err}
use Rattle.std.proofs.lemmas.Bool.{and_parts}
use Rattle.lent.proofs.NeverLaws.{never}
use Rattle.grouping_chart.specs.Refusal.{Check, passed, kind_good, time_good, ratio_good, Verdict, accepted, object_order, in_order}
use Rattle.grouping_chart.specs.declared.refusal.Reason.TheVariants.{BadDelta, LowestAboveHighest}
use Rattle.grouping_chart.specs.declared.refusal.Refusal.{Refusal}
use Rattle.grouping_chart.specs.passes.Good.{SameLengths, first_at}
use Rattle.grouping_chart.proofs.AllLaws.{all_each, places_each}
use Rattle.grouping_chart.proofs.RefusalLaws.{first-places, refused_before, passed_before}
use Rattle.grouping_chart.proofs.AcceptedLaws.{GoodBeside, objects_good, good_objects, all_passed}
use Rattle.grouping_ranges.specs.declared.Range.{Range}
use Rattle.call_taps.specs.Taps.{TapChart, tap_size, range_of}
use Rattle.call_taps.specs.Refusals.{range_refusal, ranges, all_equally_long, ranges_verdict, tap_verdict}
use Rattle.call_taps.specs.passes.Rooms.{SameLong, all_good}

-- a chart that is not refused, in a call of which nothing is refused beside it
pub record TapsPassed (t : TapChart) (beside : Check) : Type 0 where
  pub few : tap_size t ≤ 16384
  pub room : beside ≡ passed
  pub long : SameLong t
  pub objects : (o : ℕ) → o < tap_size t → GoodBeside (get_or t.kinds o 0) (get_or t.starts o nan) (range_refusal (range_of t o)) (get_or t.ratios o nan)

-- ---- a range

range_tests : (a b c : Bool) → cond (a && b) (cond c passed (Err LowestAboveHighest)) (Err BadDelta) ≡ passed → (a ≡ true) × ((b ≡ true) × (c ≡ true))
range_tests true true true e = (refl, (refl, refl))
range_tests true true false e = never (cc)
range_tests true false c e = never (cc)
range_tests false b c e = never (cc)

pub range_good : (r : Range) → range_refusal r ≡ passed → T (time_good r.low) × (T (time_good r.high) × T (le r.low r.high))
unfolding range_refusal
range_good r e =
    let t = range_tests (time_good r.low) (time_good r.high) (le r.low r.high) e in
    (passes _ t.0, (passes _ t.1.0, passes _ t.1.1))

good_range : (r : Range) → time_good r.low ≡ true → time_good r.high ≡ true → le r.low r.high ≡ true → range_refusal r ≡ passed
unfolding range_refusal
good_range r a b c = rw (a, b, c)

-- ---- the list of ranges

pub length_ranges : (lowest highest : List Float) → length highest ≡ length lowest → length (ranges lowest highest) ≡ length lowest
unfolding ranges
length_ranges [] highest e = refl
length_ranges (l ∷ lowest) [] e = e
length_ranges (l ∷ lowest) (h ∷ highest) e = ap suc (length_ranges lowest highest (omega (arith, e)))

pub ranges_at : (lowest highest : List Float) → length highest ≡ length lowest → (o : ℕ) → o < length lowest → (z : Range)
    → get_or (ranges lowest highest) o z ≡ record { low = get_or lowest o nan; high = get_or highest o nan }
unfolding ranges
ranges_at [] highest e o i z = absurd (omega arith)
ranges_at (l ∷ lowest) [] e o i z = absurd (omega (arith, e))
ranges_at (l ∷ lowest) (h ∷ highest) e zero i z = refl
ranges_at (l ∷ lowest) (h ∷ highest) e (suc o) i z = ranges_at lowest highest (omega (arith, e)) o (omega arith) z

-- ---- all objects

module _ (t : TapChart) (same : SameLong t) where
  same_lengths : SameLengths (length t.kinds) t.starts (ranges t.lowest t.highest) t.ratios
  same_lengths = record {
    start = same.starts;
    delta = length_ranges t.lowest t.highest (same.highest ∙ sym same.lowest) ∙ same.lowest;
    ratio = same.ratios;
  }

  range_at : (o : ℕ) → o < tap_size t → (z : Range) → get_or (ranges t.lowest t.highest) o z ≡ range_of t o
  unfolding range_of
  range_at o h z = ranges_at t.lowest t.highest (same.highest ∙ sym same.lowest) o (omega (arith, same.lowest)) z

  -- where all is good no object is refused
  pub all_good_accepted : all_good t ≡ true → accepted ≡ ranges_verdict t
  unfolding all_good range_of
  all_good_accepted e =
      let kinds = and_parts _ _ e in
      let starts = and_parts _ _ kinds.1 in
      let lowest = and_parts _ _ starts.1 in
      let highest = and_parts _ _ lowest.1 in
      let ordered = and_parts _ _ highest.1 in
      sym (good_objects range_refusal 0 t.kinds t.starts (ranges t.lowest t.highest) t.ratios (λ o y z h. record {
        kind = leb-true _ 2 (all_each kind_good t.kinds kinds.0 o 0 h);
        start = passes _ (all_each time_good t.starts starts.0 o z (omega (arith, same.starts)));
        delta = rw (range_at o h y) (good_range (range_of t o)
            (all_each time_good t.lowest lowest.0 o nan (omega (arith, same.lowest)))
            (all_each time_good t.highest highest.0 o nan (omega (arith, same.highest)))
            (places_each (λ i. le (get_or t.lowest i nan) (get_or t.highest i nan)) (tap_size t) ordered.0 o h));
        ratio = passes _ (all_each ratio_good t.ratios ordered.1 o z (omega (arith, same.ratios)));
      }))

  -- the first that is refused, by the places
  pub objects_places : {checks : ℕ → Check} → ((o : ℕ) → o < tap_size t
      → checks o ≡ object_order (get_or t.kinds o 0) (get_or t.starts o nan) (range_refusal (range_of t o)) (get_or t.ratios o nan))
      → first_at checks (tap_size t) ≡ ranges_verdict t
  objects_places each =
      let z : Range = record { low = nan; high = nan } in
      first-places range_refusal t.kinds t.starts (ranges t.lowest t.highest) t.ratios z nan same_lengths _ (λ o h. rw (range_at o h z) (each o h))

-- ---- the chart

all_four : (a b c d : Bool) → cond a (cond b (cond c d false) false) false ≡ true → (a ≡ true) × ((b ≡ true) × ((c ≡ true) × (d ≡ true)))
all_four true true true d e = (refl, (refl, (refl, e)))
all_four true true false d e = never (cc)
all_four true false c d e = never (cc)
all_four false b c d e = never (cc)

equal_lengths : (t : TapChart) → all_equally_long t ≡ true → SameLong t
unfolding all_equally_long
equal_lengths t e =
    let f = all_four _ _ _ _ e in
    record { starts = eqb-true _ _ f.0; lowest = eqb-true _ _ f.1.0; highest = eqb-true _ _ f.1.1.0; ratios = eqb-true _ _ f.1.1.1 }

pub tap_passed : (t : TapChart) (beside : Check) → tap_verdict t beside ≡ accepted → TapsPassed t beside
unfolding tap_verdict
tap_passed t beside e =
    let p = all_passed _ (all_equally_long t) beside _ e in
    let same = equal_lengths t p.same in
    let lists = same_lengths t same in
    record {
      few = ltb-false _ _ p.few;
      room = p.none;
      long = same;
      objects = λ o h. rw (← range_at t same o h (range_of t o)) (objects_good range_refusal 0 _ _ _ _ lists p.good o (range_of t o) nan h);
    }

-- ---- the verdict from the tests before the objects, as `before_objects` answered them

module _ (t : TapChart) (beside : Check) {equal : Bool} {asked : Check} {v : Verdict} (same : equal ≡ all_equally_long t) (test : asked ≡ beside)
    (told : v ≡ in_order (ltb 16384 (tap_size t)) equal asked accepted) where
  pub told_first : {first : Refusal} → v ≡ Err first → tap_verdict t beside ≡ Err first
  unfolding tap_verdict
  told_first h = rw (← same, ← test) (refused_before _ equal asked (ranges_verdict t) (sym told ∙ h))

  pub told_none : v ≡ accepted → SameLong t × (tap_verdict t beside ≡ ranges_verdict t)
  unfolding tap_verdict
  told_none h =
      let taken = sym told ∙ h in
      (equal_lengths t (sym same ∙ (all_passed _ equal asked accepted taken).same), rw (← same, ← test) (passed_before _ equal asked (ranges_verdict t) taken))
