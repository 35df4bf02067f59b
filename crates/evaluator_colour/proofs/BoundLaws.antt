-- Sizes for the crates above: an object's sum is at most 5, and with ratios in range a colour value is finite, so no NaN.
-- Each formula is bounded by what its parts are.
use mathlib.Core.Bool.{Bool, true, false, cond}
use Prim.Native.Nat.{ℕ, ◌+◌, ◌*◌, ◌^◌, ◌≤◌}
use native.Mathlib.Nat.{mul-pos, zero-lt-suc}
use native.Mathlib.Omega.{arith}
use lib.Dec.{T, ltb, leb→le}
use lib.Ieee.{Float, nan, inf, fin, binary64, up, down, unlike, le, sub, mul, div}
use lib.Ieee.Fits.{down_pos}
use lib.Ieee.Positive.{positive, between, le→cross}
use Rattle.numeric.specs.Constants.{zero64, half64, one64, two64, eight_tenths}
use Rattle.numeric.specs.Logistic.{logistic_at}
use Rattle.numeric.specs.Near.{is_near}
use Rattle.numeric.specs.Range.{least_ratio, greatest_ratio}
use Rattle.numeric.proofs.ConstantLaws.{eight_tenths_bounded}
use Rattle.numeric.proofs.Bounded.{Bounded, bounded_more, round_bounded, cond_bounded, add_bounded, sub_bounded, mul_bounded, div_bounded}
use Rattle.numeric.proofs.logistic.Bounds.{logistic_bounded, rest_bounded}
use Rattle.evaluator_colour.specs.declared.Standing.{Standing}
use Rattle.evaluator_colour.specs.Formulas.{hit_value, alt_value, mono_value, add_if, object_sum}
use Rattle.evaluator_colour.specs.RatioPenalty.{lowered, ratio_penalty}

-- ---- an object's sum
pub hit_bounded : (interval : ℕ) → Bounded (hit_value interval) 2
unfolding hit_value
hit_bounded interval = mul_bounded two64 (sub binary64 one64 (logistic_at interval)) 2 1 (leb→le 2 (2 ^ 53) tt) (leb→le 2 2 tt) (rest_bounded interval)

pub alt_bounded : (place : ℕ) (hit : Float) → Bounded hit 2 → Bounded (alt_value place hit) 2
unfolding alt_value
alt_bounded place hit h = mul_bounded (logistic_at place) hit 1 2 (leb→le 2 (2 ^ 53) tt) (logistic_bounded place) h

halved : (x : Float) → Bounded x 2 → Bounded (mul binary64 x half64) 1
unfolding mul
halved nan h = absurd h
halved (inf s) h = absurd h
halved (fin s m e) h = round_bounded (unlike s false) (m * up e * 1) (down e * 2) 1 (mul-pos (down_pos e) (zero-lt-suc 1)) (leb→le 1 (2 ^ 53) tt) (omega arith)

pub mono_bounded : (place : ℕ) (alt : Float) → Bounded alt 2 → Bounded (mono_value place alt) 1
unfolding mono_value
mono_bounded place alt h =
    halved (mul binary64 (logistic_at place) alt) (mul_bounded (logistic_at place) alt 1 2 (leb→le 2 (2 ^ 53) tt) (logistic_bounded place) h)

add_if_bounded : (first : Bool) (sum x : Float) (B C : ℕ) → B ≤ B + C → B + C ≤ 2 ^ 53 → Bounded sum B → Bounded x C → Bounded (add_if first sum x) (B + C)
unfolding add_if
add_if_bounded true sum x B C l k h g = add_bounded sum x B C k h g
add_if_bounded false sum x B C l k h g = bounded_more sum B (B + C) l h

pub sum_bounded : (o : Standing) → Bounded (object_sum o) 5
unfolding object_sum
sum_bounded o =
    let hit = hit_value o.interval in
    let alt = alt_value o.pattern_place hit in
    let mono = mono_value o.streak_place alt in
    let with-mono = add_if o.streak zero64 mono in
    let with-alt = add_if o.pattern with-mono alt in
    let h = hit_bounded o.interval in
    let a = alt_bounded o.pattern_place hit h in
    let m = add_if_bounded o.streak zero64 mono 0 1 (leb→le 0 1 tt) (leb→le 1 (2 ^ 53) tt) (leb→le 0 0 tt) (mono_bounded o.streak_place alt a) in
    add_if_bounded o.hit with-alt hit 3 2 (leb→le 3 5 tt) (leb→le 5 (2 ^ 53) tt)
    (add_if_bounded o.pattern with-mono alt 1 2 (leb→le 1 3 tt) (leb→le 3 (2 ^ 53) tt) m a) h

-- ---- ratios in range, that is from 2 ^ -24 to 2 ^ 24
below_highest : (r : Float) → T (positive r) → T (le r greatest_ratio) → Bounded r (2 ^ 24)
below_highest nan p h = absurd p
below_highest (inf s) p h = absurd p
below_highest (fin true m e) p h = absurd p
below_highest (fin false m e) p h = let k = le→cross (fin false m e) greatest_ratio p tt h in omega arith

pub ratio_bounded : (r : Float) → T (le least_ratio r) → T (le r greatest_ratio) → Bounded r (2 ^ 24)
ratio_bounded r lo hi = below_highest r (between least_ratio r greatest_ratio tt tt lo hi) hi

pub lowered_bounded : (r : Float) → T (le least_ratio r) → T (le r greatest_ratio) → Bounded (lowered r) (2 ^ 24 + 1)
unfolding lowered
lowered_bounded r lo hi =
    sub_bounded one64 (mul binary64 (div binary64 r two64) eight_tenths) 1 (2 ^ 24) (leb→le (2 ^ 24 + 1) (2 ^ 53) tt) (leb→le 1 1 tt)
    (mul_bounded (div binary64 r two64) eight_tenths (2 ^ 24) 1 (leb→le (2 ^ 24) (2 ^ 53) tt)
    (div_bounded r two64 (2 ^ 24) 1 (leb→le (2 ^ 24) (2 ^ 53) tt) (ratio_bounded r lo hi) (leb→le 1 2 tt))
    eight_tenths_bounded)

module _ (tolerance : Float) (idx : ℕ) (c p : Float) (c-lo : T (le least_ratio c)) (c-hi : T (le c greatest_ratio)) (p-lo : T (le least_ratio p))
    (p-hi : T (le p greatest_ratio)) where
  pub penalty_bounded : Bounded (ratio_penalty tolerance idx c p) (2 ^ 24 + 1)
  unfolding ratio_penalty
  penalty_bounded =
      let B = 2 ^ 24 + 1 in
      let u : Bounded one64 B = leb→le 1 B tt in
      let last = cond (ltb idx 4) one64 (lowered p) in
      let near = cond (is_near tolerance one64 (div binary64 c p)) (lowered c) last in
      cond_bounded (ltb idx 2) one64 near B u
      (cond_bounded (is_near tolerance one64 (div binary64 c p)) (lowered c) last B (lowered_bounded c c-lo c-hi)
      (cond_bounded (ltb idx 4) one64 (lowered p) B u (lowered_bounded p p-lo p-hi)))

  -- 5 * (2 ^ 24 + 1), below 2 ^ 27
  pub colour_bounded : (o : Standing) → Bounded (mul binary64 (object_sum o) (ratio_penalty tolerance idx c p)) 83886085
  colour_bounded o = mul_bounded (object_sum o) (ratio_penalty tolerance idx c p) 5 (2 ^ 24 + 1) (leb→le 83886085 (2 ^ 53) tt) (sum_bounded o) penalty_bounded
