-- The colour half, proved: the claim holds of every two charts whose last objects are alike in kind and ratio, from every colour landmark there, read in either
-- chart.
use mathlib.Core.Path.{◌≡◌, sym, ◌∙◌}
use mathlib.Core.Logic.{◌⊎◌, ⊎_elim, ◌↔◌}
use Prim.Native.Nat.{ℕ, ◌+◌, ◌≤◌, ◌<◌}
use native.Mathlib.Omega.{arith}
use lib.ListN.{length, get_or}
use Rattle.grouping_chart.specs.Chart.{Chart, size}
use Rattle.grouping_chart.specs.Settings.{Settings}
use Rattle.grouping_preprocessor.specs.Preprocessor.{hit_of, interval_of}
use Rattle.evaluator_values.proofs.StandingLaws.{value_of}
use Rattle.agreement.specs.CommonTail.{Counterparts, SameLast}
use Rattle.agreement.specs.SameGroups.{OpensAt, SameGroups}
use Rattle.agreement.specs.colour.Landmark.{ColourLandmark}
use Rattle.agreement.specs.passes.Agreement.{HitsCut, Agree}
use Rattle.agreement.specs.colour.Claim.{Settled, HitsClaim, hit_patterns, hits_of, ColourClaim}
use Rattle.agreement.proofs.TailLaws.{same_at}
use Rattle.agreement.proofs.GroupLaws.{ReachesBack, same_groups}
use Rattle.agreement.proofs.colour.HitsAgree.{colour-agree, landmark_late}
use Rattle.agreement.proofs.colour.ValueAgree.{at_counterparts, value-agree}
use Rattle.call_colour.proofs.StretchValues.{value_at}
use Rattle.agreement.proofs.colour.StretchAgree.{settled-onwards, same_stretch}
use Rattle.agreement.proofs.colour.LessonAgree.{StretchClaim, same_lesson}

-- ---- one chart, cut between two hit patterns

module _ (c : Chart) {p before : ℕ} (x : HitsCut c.kinds p before) where
  cut-opens : p < size c → OpensAt (hit_patterns c) p
  cut-opens l = record { there = l; first = λ j h e. omega (arith, x.opens l, x.earlier j h) }

  -- no hit pattern reaches back over the cut
  cut_closed : (i : ℕ) → p ≤ i → i < size c → ReachesBack (hit_patterns c) p i → ⊥
  cut_closed i l h y = omega (arith, x.earlier y.0 y.1.0, x.later i l h, y.1.1)

  -- counted from the number of hit patterns before the cut
  settled-counts : {limit i : ℕ} → Settled limit (hit_patterns c) p i → before + limit ≤ get_or (hit_of c.kinds) i 0 + 1
  settled-counts s = omega (arith, s.late, x.opens (omega (arith, s.after, s.there)))

  counts-settled : {limit i : ℕ} → p ≤ i → i < size c → before + limit ≤ get_or (hit_of c.kinds) i 0 + 1 → Settled limit (hit_patterns c) p i
  counts-settled l h n = record { after = l; there = h; late = omega (arith, x.opens (omega arith)) }

-- ---- two charts that agree

module _ (s : Settings) (c c' : Chart) {a g b h : ℕ} (r : Agree s.search_limit c.kinds a g c'.kinds b h) where
  hit-agree : (i i' : ℕ) → a ≤ i → Counterparts (size c) (size c') i i' → i < size c → get_or (hit_of c.kinds) i 0 + h ≡ get_or (hit_of c'.kinds) i' 0 + g
  hit-agree = at_counterparts r (λ (i i' : ℕ). i < size c → get_or (hit_of c.kinds) i 0 + h ≡ get_or (hit_of c'.kinds) i' 0 + g) r.hit

  interval-agree : (i i' : ℕ) → a ≤ i → Counterparts (size c) (size c') i i' → i < size c → g + s.search_limit ≤ get_or (hit_of c.kinds) i 0 + 1
      → get_or (interval_of s.search_limit c.kinds) i 0 ≡ get_or (interval_of s.search_limit c'.kinds) i' 0
  interval-agree =
      at_counterparts r
      (λ (i i' : ℕ). i < size c → g + s.search_limit ≤ get_or (hit_of c.kinds) i 0 + 1
      → get_or (interval_of s.search_limit c.kinds) i 0 ≡ get_or (interval_of s.search_limit c'.kinds) i' 0) r.interval

  pub same_hits : SameGroups (hit_patterns c) a (hit_patterns c') b
  same_hits = same_groups (record {
    start = r.objects;
    from = g;
    from' = h;
    shift = λ i i' l k e. hit-agree i i' l e k;
    reach = λ i i' l k e y. absurd (cut_closed c r.cut i l k y);
    reach' = λ i i' l k e y. absurd (cut_closed c' r.cut' i' (omega (arith, r.objects)) (omega arith) y);
  })

  settled-agree : (i i' : ℕ) → Counterparts (size c) (size c') i i'
      → Settled s.search_limit (hit_patterns c) a i ↔ Settled s.search_limit (hit_patterns c') b i'
  settled-agree i i' e = (there, back)
    where
      there : Settled s.search_limit (hit_patterns c) a i → Settled s.search_limit (hit_patterns c') b i'
      there x =
          counts-settled c' r.cut' (omega (arith, r.objects, x.after)) (omega (arith, x.there))
          (omega (arith, settled-counts c r.cut x, hit-agree i i' x.after e x.there))

      back : Settled s.search_limit (hit_patterns c') b i' → Settled s.search_limit (hit_patterns c) a i
      back x =
          let l : a ≤ i = omega (arith, r.objects, x.after) in
          let k : i < size c = omega (arith, x.there) in
          counts-settled c r.cut l k (omega (arith, settled-counts c' r.cut' x, hit-agree i i' l e k))

  hits_claim : HitsClaim s.search_limit (hits_of s c) a (hits_of s c') b
  hits_claim = record {
    same = same_hits;
    opens_there = cut-opens c r.cut;
    settled = settled-agree;
    interval = λ i i' x e. interval-agree i i' x.after e x.there (settled-counts c r.cut x);
  }

  module _ {m : ℕ} (whole : length c.ratios ≡ size c) (whole' : length c'.ratios ≡ size c')
      (k : SameLast m c.kinds c'.kinds) (t : SameLast m c.ratios c'.ratios) (late : size c + 4 ≤ a + m) where
    same_kind : (i i' : ℕ) → Settled s.search_limit (hit_patterns c) a i → Counterparts (size c) (size c') i i' → get_or c.kinds i 0 ≡ get_or c'.kinds i' 0
    same_kind i i' x e = same_at k i i' (omega (arith, x.after)) e 0

    same_value : (i i' : ℕ) → Settled s.search_limit (hit_patterns c) a i → Counterparts (size c) (size c') i i' → value_at s c i ≡ value_at s c' i'
    same_value i i' x e = value-agree r s.tolerance whole whole' t late i i' x.after e x.there (settled-counts c r.cut x)

    stretches : StretchClaim s c c' a
    stretches = same_stretch s c c' a same_kind same_value

    claimed : ColourClaim s c c' a b
    claimed = record {
      hits = hits_claim;
      value = λ i i' x e. value_of s.search_limit s.tolerance c.kinds c.ratios i x.there ∙ same_value i i' x e
          ∙ sym (value_of s.search_limit s.tolerance c'.kinds c'.ratios i' (omega (arith, x.there)));
      onwards = settled-onwards c;
      stretch = stretches;
      lesson = λ l l' same each good. same_lesson s c c' a stretches l l' same each good;
    }

-- ---- the theorem

pub colour_claim : (s : Settings) (c c' : Chart) {m p p' : ℕ} → length c.ratios ≡ size c → length c'.ratios ≡ size c'
    → SameLast m c.kinds c'.kinds → SameLast m c.ratios c'.ratios → Counterparts (size c) (size c') p p'
    → ColourLandmark c.kinds m p ⊎ ColourLandmark c'.kinds m p' → ColourClaim s c c' p p'
colour_claim s c c' {m} {p} {p'} whole whole' k t far x =
    let r = colour-agree s.search_limit c.kinds c'.kinds m p p' k far x in
    let late : size c + 4 ≤ p + m = ⊎_elim (λ y. omega (arith, landmark_late y)) (λ y. omega (arith, landmark_late y)) x in
    claimed s c c' r.agree whole whole' k t late
