-- The verdict on a call, case by case, in the order of the tests; it is never refused for a bad ratio, refusal 7.
use mathlib.Core.Path.{◌≡◌, refl, sym, ◌∙◌}
use mathlib.Core.Bool.{Bool, true, false, cond}
use Prim.Native.Nat.{ℕ, ◌≤◌, ◌<◌}
use borrow.Author.Tests.{lt-ltb, le-ltb, ltb-false, eq-eqb, eqb-true}
use lib.Dec.{eqb, ltb}
use lib.ListN.{length}
use lib.Ieee.{Float}
use Rattle.std.specs.Prelude.{Err}
use Rattle.lent.proofs.NeverLaws.{never}
use Rattle.grouping_chart.specs.Refusal.{Check, passed, Verdict, accepted, refused, refused_or, in_order, objects_verdict}
use Rattle.grouping_chart.specs.declared.refusal.Reason.{Reason}
use Rattle.grouping_chart.specs.declared.refusal.Reason.TheVariants.{TooManyObjects, UnequalLengths, ShortSlice, BadRatio, BadRate}
use Rattle.grouping_chart.specs.declared.refusal.Refusal.{Refusal}
use Rattle.grouping_chart.proofs.RefusalLaws.{NotRatio, neither_ratio, objects_not_ratio, refused_before, passed_before}
use Rattle.grouping_chart.proofs.AcceptedLaws as chart
use Rattle.call_build.specs.Build.{Raw, built_chart}
use Rattle.call_build.specs.Call.{rate_good, beside_refusal, verdict_of}
use Rattle.call_build.proofs.ChartLaws.{all_ratios_good}

-- what is known of an accepted call
pub record Passed (rate : Float) (r : Raw) (short : Bool) : Type 0 where
  pub few : length r.kinds ≤ 16386
  pub times : length r.times ≡ length r.kinds
  pub long : short ≡ false
  pub objects : objects_verdict (built_chart rate r) ≡ accepted

long_enough : (short : Bool) (rate : Float) → beside_refusal short rate ≡ passed → short ≡ false
unfolding beside_refusal
long_enough true rate e = never (cc)
long_enough false rate e = refl

module _ (rate : Float) (r : Raw) (short : Bool) where
  pub all_passed : verdict_of rate r short ≡ accepted → Passed rate r short
  unfolding verdict_of
  all_passed h =
      let p =
      chart.all_passed (ltb 16386 (length r.kinds)) (eqb (length r.times) (length r.kinds)) (beside_refusal short rate)
      (objects_verdict (built_chart rate r)) h in
      record { few = ltb-false _ _ p.few; times = eqb-true _ _ p.same; long = long_enough short rate p.none; objects = p.good }

  pub refused_1 : 16386 < length r.kinds → refused TooManyObjects ≡ verdict_of rate r short
  unfolding verdict_of
  refused_1 h = rw (lt-ltb _ _ h) refl

  pub refused_beside : {reason : Reason} → length r.kinds ≤ 16386 → length r.times ≡ length r.kinds → Err reason ≡ beside_refusal short rate
      → refused reason ≡ verdict_of rate r short
  unfolding verdict_of
  refused_beside few same told = rw (le-ltb _ _ few, eq-eqb _ _ same, ← told) refl

  -- by the tests before the objects, as they were answered
  module _ {equal : Bool} {beside : Check} {v : Verdict} (same : equal ≡ eqb (length r.times) (length r.kinds)) (asked : beside ≡ beside_refusal short rate)
      (told : v ≡ in_order (ltb 16386 (length r.kinds)) equal beside accepted) where
    pub told_first : {first : Refusal} → v ≡ Err first → verdict_of rate r short ≡ Err first
    unfolding verdict_of
    told_first h = rw (← same, ← asked) (refused_before _ equal beside (objects_verdict (built_chart rate r)) (sym told ∙ h))

    pub told_none : v ≡ accepted → (length r.times ≡ length r.kinds) × (verdict_of rate r short ≡ objects_verdict (built_chart rate r))
    unfolding verdict_of
    told_none h =
        let taken = sym told ∙ h in (
          eqb-true _ _ (sym same ∙ (chart.all_passed _ equal beside accepted taken).same),
          rw (← same, ← asked) (passed_before _ equal beside (objects_verdict (built_chart rate r)) taken),
        )

-- ---- refusal 7 never applies

beside_not_ratio : (short good : Bool) (later : Verdict) → NotRatio later
    → NotRatio (refused_or (cond short (Err ShortSlice) (cond good passed (Err BadRate))) 0 later)
beside_not_ratio true good later l = λ e. never (cc)
beside_not_ratio false true later l = l
beside_not_ratio false false later l = λ e. never (cc)

not_ratio : (rate : Float) (r : Raw) (short : Bool) → NotRatio (verdict_of rate r short)
unfolding verdict_of beside_refusal
not_ratio rate r short =
    let objects = objects_verdict (built_chart rate r) in
    let asked = beside_refusal short rate in
    let equal = eqb (length r.times) (length r.kinds) in
    let later : NotRatio (refused_or asked 0 objects) =
    beside_not_ratio short (rate_good rate) objects (objects_not_ratio 0 _ _ _ _ (all_ratios_good rate r)) in
    let lengths = neither_ratio equal (refused_or asked 0 objects) (refused UnequalLengths) later (λ e. never (cc)) in
    neither_ratio (ltb 16386 (length r.kinds)) (refused TooManyObjects) _ (λ e. never (cc)) lengths

-- so a built ratio is never refused
pub never_7 : (rate : Float) (r : Raw) (short : Bool) (place : ℕ) → verdict_of rate r short ≡ Err (record { reason = BadRatio; place = place }) → ⊥
never_7 rate r short place e = (rw e at (not_ratio rate r short)) refl
