-- The sign of a zero plays no part where a margin is compared or added: so a margin that is not negative is as good as its size.
use mathlib.Core.Path.{◌≡◌, refl, sym, ◌∙◌}
use mathlib.Core.Bool.{Bool, true, false}
use Prim.Native.Nat.{ℕ, zero, suc, ◌*◌, ◌<◌, zero-le}
use native.Mathlib.Nat.{zero-mul, add-zero, sub-zero, mul-pos, zero-lt-suc}
use lib.IntN.{ℤ, pos}
use lib.Dec.{T, eqb, eqb→eq, lt→ltb}
use lib.Ieee.{Float, nan, inf, fin, binary64, up, down, round, sum, add, sub, lt, le}
use lib.Ieee.Bits.{is_true}
use lib.Ieee.Fits.{up_pos, down_pos, and_l}
use lib.Ieee.Scale.{round_same}
use borrow.Author.Tests.{le-ltb}
use Rattle.numeric.specs.Constants.{zero64}
use Rattle.numeric.specs.Range.{within}
use Rattle.numeric.specs.Near.{abs_of, is_near}
use Rattle.numeric.proofs.Values.{not_zero}
use Rattle.numeric.proofs.Units.{below_is, leq_is}

-- ---- a zero compared
le_zero : (e : ℤ) (x : Float) → le x (fin true 0 e) ≡ le x (fin false 0 e)
unfolding le
le_zero e nan = refl
le_zero e (inf s) = refl
le_zero e (fin s m d) = let a = m * up d * down e in rw (zero-mul (up e), zero-mul (down d)) (leq_is s a true 0 ∙ sym (leq_is s a false 0))

zero_le : (e : ℤ) (y : Float) → le (fin true 0 e) y ≡ le (fin false 0 e) y
unfolding le
zero_le e nan = refl
zero_le e (inf t) = refl
zero_le e (fin t n d) = let b = n * up d * down e in rw (zero-mul (up e), zero-mul (down d)) (leq_is true 0 t b ∙ sym (leq_is false 0 t b))

zero_lt : (e : ℤ) (w : Float) → lt (fin true 0 e) w ≡ lt (fin false 0 e) w
unfolding lt
zero_lt e nan = refl
zero_lt e (inf t) = refl
zero_lt e (fin t n d) = let b = n * up d * down e in rw (zero-mul (up e), zero-mul (down d)) (below_is true 0 t b ∙ sym (below_is false 0 t b))

-- ---- a zero added
zero_rounded : (s : Bool) (c : ℕ) → 0 < c → round binary64 s 0 c ≡ fin s 0 (pos 0)
unfolding round
zero_rounded s c h = round_same binary64 s 0 c 0 1 h (zero-lt-suc 0) (sym (zero-mul c))

sum_zero : (s : Bool) (a c : ℕ) (w : Float) → 0 < c → lt (sum binary64 s a true 0 c) w ≡ lt (sum binary64 s a false 0 c) w
unfolding sum
sum_zero false a c w h = rw (le-ltb a 0 zero-le, sub-zero, add-zero) refl
sum_zero true zero c w h = rw (zero_rounded true c h, zero_rounded false c h) (zero_lt (pos 0) w)
sum_zero true (suc a) c w h = rw (le-ltb (suc a) 0 zero-le, is_true _ (lt→ltb 0 (suc a) (zero-lt-suc a)), sub-zero, add-zero) refl

add_zero : (e : ℤ) (v w : Float) → lt (add binary64 v (fin true 0 e)) w ≡ lt (add binary64 v (fin false 0 e)) w
unfolding add
add_zero e nan w = refl
add_zero e (inf s) w = refl
add_zero e (fin s m d) w =
    rw (zero-mul (up e), zero-mul (down d)) (sum_zero s (m * up d * down e) (down d * down e) w (mul-pos (down_pos d) (down_pos e)))

-- ---- a margin that is not negative: its size, or a zero with a sign
negative : (m : ℕ) (e : ℤ) → T (le zero64 (fin true (suc m) e)) → ⊥
unfolding le
negative m e h =
    let a = 0 * up (pos 0) * down e in
    let b = suc m * up e * down (pos 0) in
    let z : a ≡ 0 = rw (zero-mul (up (pos 0)), zero-mul (down e)) refl in
    not_zero b (mul-pos (mul-pos (zero-lt-suc m) (up_pos e)) (zero-lt-suc 0)) (sym (eqb→eq a b (and_l (eqb a b) (eqb a 0) h)) ∙ z)

by_size : (P : Float → Float → Type 0) → ((x : Float) → P x x) → ((e : ℤ) → P (fin true 0 e) (fin false 0 e)) → (margin : Float)
    → T (le zero64 margin) → P margin (abs_of margin)
unfolding abs_of le
by_size P same zero_sign nan h = same nan
by_size P same zero_sign (inf true) h = absurd h
by_size P same zero_sign (inf false) h = same (inf false)
by_size P same zero_sign (fin true zero e) h = zero_sign e
by_size P same zero_sign (fin true (suc m) e) h = absurd (negative m e h)
by_size P same zero_sign (fin false m e) h = same (fin false m e)

-- the numbers of settings are not negative
pub record NotNegative (x : Float) : Type 0 where
  pub from_zero : T (le zero64 x)

module _ {margin : Float} (h : NotNegative margin) where
  pub near_unsigned : is_near margin ≡ is_near (abs_of margin)
  unfolding is_near
  near_unsigned = by_size (λ x y. is_near x ≡ is_near y) (λ x. refl) (λ e i a b. le_zero e (abs_of (sub binary64 a b)) i) margin h.from_zero

  pub sum_unsigned : (v w : Float) → lt (add binary64 v margin) w ≡ lt (add binary64 v (abs_of margin)) w
  sum_unsigned v w =
      by_size (λ x y. lt (add binary64 v x) w ≡ lt (add binary64 v y) w) (λ x. refl) (λ e. add_zero e v w) margin h.from_zero

  -- so its size lies in a range that begins at 0.0, where it does
  pub size_within : (hi : Float) → T (within zero64 hi margin) → T (within zero64 hi (abs_of margin))
  unfolding within
  size_within hi =
      by_size (λ x y. T (within zero64 hi x) → T (within zero64 hi y)) (λ x t. t) (λ e t. rw (← le_zero e zero64, ← zero_le e hi) t)
      margin h.from_zero
