-- The colour half over the calls: what encode, colour, stretch and lesson answer on two accepted charts, from a colour landmark on. Each call leaves the
-- definition's numbers, place by place, so that what is claimed of these is claimed of what it leaves.
use mathlib.Core.Path.{◌≡◌, sym, ◌∙◌}
use mathlib.Core.Logic.{◌⊎◌}
use mathlib.Core.List.{List}
use Prim.Native.Nat.{ℕ}
use native.Mathlib.Omega.{arith}
use Rattle.std.specs.Prelude.{Ok}
use Rattle.grouping_chart.specs.Chart.{Chart, size}
use Rattle.grouping_chart.specs.Refusal.{Check, accepted, verdict}
use Rattle.grouping_chart.specs.Settings.{Settings}
use Rattle.grouping_chart.proofs.AcceptedLaws.{accepted_good}
use Rattle.call_encode.specs.Call as encode
use Rattle.call_encode.proofs.CallLaws.{hit-written, interval-written}
use Rattle.call_colour.specs.Call.{Memory, judged, stretch_mean}
use Rattle.call_colour.proofs.AnswerLaws.{value-written, stretch-answered}
use Rattle.call_lesson.specs.Lesson.{Stretches}
use Rattle.call_lesson.specs.Call as lesson
use Rattle.call_lesson.proofs.CallLaws.{taken}
use Rattle.call_lesson.proofs.AnswerLaws.{mean-written, tenths-written}
use Rattle.agreement.specs.CommonTail.{Counterparts, SameLast}
use Rattle.agreement.specs.SameGroups.{groups}
use Rattle.agreement.specs.colour.Landmark.{ColourLandmark}
use Rattle.agreement.specs.colour.Claim.{Settled, HitsClaim, ColourClaim}
use Rattle.agreement.specs.colour.Calls.{EncodeClaim, CallsClaim, LessonClaim}
use Rattle.agreement.proofs.GroupLaws.{SameNumbers, numbers_sym, opens-alike, groups-alike}
use Rattle.agreement.proofs.colour.Claimed.{colour_claim}
use Rattle.agreement.proofs.colour.LessonAgree.{pair_stretch}

-- ---- the same numbers in other lists

settled-alike : {limit n p i : ℕ} {xs ys : List ℕ} → SameNumbers n xs ys → Settled limit (groups n xs) p i → Settled limit (groups n ys) p i
settled-alike {p = p} {i = i} e x = record {
  after = x.after;
  there = x.there;
  late = omega (arith, x.late, e.at p (omega (arith, x.after, x.there)), e.at i x.there);
}

hits-alike : {limit n n' p p' : ℕ} {xs ys ks ls xs' ys' ks' ls' : List ℕ} → SameNumbers n xs ys → SameNumbers n ks ls
    → SameNumbers n' xs' ys' → SameNumbers n' ks' ls'
    → HitsClaim limit (record { patterns = groups n xs; intervals = ks }) p (record { patterns = groups n' xs'; intervals = ks' }) p'
    → HitsClaim limit (record { patterns = groups n ys; intervals = ls }) p (record { patterns = groups n' ys'; intervals = ls' }) p'
hits-alike e f e' f' k = record {
  same = groups-alike e e' k.same;
  opens_there = λ l. opens-alike e (k.opens_there l);
  settled = λ i i' c. (
    λ x. settled-alike e' ((k.settled i i' c).0 (settled-alike (numbers_sym e) x)),
    λ x. settled-alike e ((k.settled i i' c).1 (settled-alike (numbers_sym e') x)),
  );
  interval = λ i i' x c. f.at i x.there ∙ k.interval i i' (settled-alike (numbers_sym e) x) c ∙ sym (f'.at i' (omega (arith, x.there)));
}

-- ---- the theorems

module _ (s : Settings) (c c' : Chart) {m p p' : ℕ} (k : SameLast m c.kinds c'.kinds) (t : SameLast m c.ratios c'.ratios)
    (far : Counterparts (size c) (size c') p p') (landmark : ColourLandmark c.kinds m p ⊎ ColourLandmark c'.kinds m p') where
  -- two charts accepted by any calls
  pub accepted_claim : (b b' : Check) → verdict c b ≡ accepted → verdict c' b' ≡ accepted → ColourClaim s c c' p p'
  accepted_claim b b' x x' = colour_claim s c c' (accepted_good c b x).lengths.ratio (accepted_good c' b' x').lengths.ratio k t far landmark

  pub encode_claim : (lent lent' : encode.Memory) → encode.judged s c lent ≡ accepted → encode.judged s c' lent' ≡ accepted → EncodeClaim s c c' lent lent' p p'
  encode_claim lent lent' x x' =
      hits-alike (record { at = hit-written s c lent x }) (record { at = interval-written s c lent x }) (record { at = hit-written s c' lent' x' })
      (record { at = interval-written s c' lent' x' }) (accepted_claim _ _ x x').hits

  pub calls_claim : (lent lent' : Memory) → judged s c lent ≡ accepted → judged s c' lent' ≡ accepted → CallsClaim s c c' lent lent' p p'
  calls_claim lent lent' x x' =
      let claim = accepted_claim _ _ x x' in
      record {
        written = λ i i' y e. value-written s c lent x i y.there ∙ claim.value i i' y e ∙ sym (value-written s c' lent' x' i' (omega (arith, y.there)));
        done = stretch-answered s c lent x;
        stretch = λ a b a' b' y z from to.
            let same = claim.stretch a b a' b' y z from to in
            stretch-answered s c lent x a b z ∙ (λ i. Ok (stretch_mean (same.mean i) (same.tenths i)))
            ∙ sym (stretch-answered s c' lent' x' a' b' same.accepted);
      }

  pub lesson_claim : (l l' : Stretches) (lent lent' : lesson.Memory) → lesson.judged s c l lent ≡ accepted → lesson.judged s c' l' lent' ≡ accepted
      → LessonClaim s c c' l l' lent lent' p
  lesson_claim l l' lent lent' x x' =
      let good = taken s c l lent x in
      let claim = accepted_claim _ _ good.chart (taken s c' l' lent' x').chart in
      record {
        mean = λ i i' y.
            let same = pair_stretch s c c' p claim.stretch l l' i i' y.same y.settled (good.lies.each i y.there) in
            mean-written s c l lent x i y.there ∙ same.mean ∙ sym (mean-written s c' l' lent' x' i' y.there');
        tenths = λ i i' y.
            let same = pair_stretch s c c' p claim.stretch l l' i i' y.same y.settled (good.lies.each i y.there) in
            tenths-written s c l lent x i y.there ∙ same.tenths ∙ sym (tenths-written s c' l' lent' x' i' y.there');
      }
