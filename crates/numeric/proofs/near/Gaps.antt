-- Gaps compare as the sizes of the differences do: a gap that is not the size is −0.0, which compares as +0.0 does.
use mathlib.Core.Path.{◌≡◌, refl, sym, ◌∙◌}
use mathlib.Core.Bool.{Bool, true, false, cond}
use Prim.Native.Nat.{ℕ, ◌+◌, ◌*◌, ◌≤◌}
use native.Mathlib.Omega.{arith}
use native.Mathlib.Nat.{zero-add, zero-mul}
use borrow.Author.Tests.{le-ltb, ltb-false}
use lib.IntN.{ℤ}
use lib.Dec.{ltb}
use lib.Ieee.{Float, nan, inf, fin, binary64, up, down, neg, lt, sub}
use Rattle.numeric.specs.Constants.{zero64}
use Rattle.numeric.specs.Near.{abs_of, is_nearer}
use Rattle.numeric.specs.passes.Gap.{gap_of}

-- a number without its sign, save that −0.0 may have it
abbrev Unsigned : Float → Type 0
Unsigned nan = Unit {0}
Unsigned (inf s) = s ≡ false
Unsigned (fin false n d) = Unit {0}
Unsigned (fin true n d) = n * up d ≡ 0

abbrev plain : Float → Float
plain x = cond (lt x zero64) (neg x) x

abbrev minus_plain : ℕ → ℤ → Bool → Float
minus_plain m e b = cond b (fin false m e) (fin true m e)

nothing_before : (m n : ℕ) → m * 1 + 0 * n ≤ 0 → m ≡ 0
nothing_before m n h = omega (arith, zero-mul n)

nothing_below : (m n : ℕ) → ltb m (0 * n) ≡ false
nothing_below m n = rw (zero-mul n) (le-ltb m 0 (omega arith))

plain_unsigned : (x : Float) → Unsigned (plain x)
unfolding lt neg
plain_unsigned nan = tt
plain_unsigned (inf true) = refl
plain_unsigned (inf false) = refl
plain_unsigned (fin false m e) = rw (nothing_below (m * up e * 1) (down e)) tt
plain_unsigned (fin true m e) = go (ltb 0 (m * up e * 1 + 0 * down e)) (ltb-false 0 (m * up e * 1 + 0 * down e))
  where
    go : (b : Bool) → (b ≡ false → m * up e * 1 + 0 * down e ≤ 0) → Unsigned (minus_plain m e b)
    go true h = tt
    go false h = nothing_before (m * up e) (down e) (h refl)

-- −0.0 and +0.0 before, and after, what has no sign
zero_before : (m : ℕ) (e : ℤ) (z : Float) → m * up e ≡ 0 → Unsigned z → lt (fin true m e) z ≡ lt (fin false m e) z
unfolding lt
zero_before m e nan h u = refl
zero_before m e (inf s) h u = refl
zero_before m e (fin false n d) h u = rw (h, zero-mul (down d), zero-add (n * up d * down e))
zero_before m e (fin true n d) h u = rw (h, u, zero-mul (down d), zero-mul (down e)) refl

zero_after : (x : Float) (n : ℕ) (d : ℤ) → n * up d ≡ 0 → lt (abs_of x) (fin true n d) ≡ lt (abs_of x) (fin false n d)
unfolding lt abs_of
zero_after nan n d h = refl
zero_after (inf s) n d h = refl
zero_after (fin s m e) n d h = rw (h) (sym (nothing_below (m * up e * down d) (down e)))

lt_before : (x z : Float) → Unsigned z → lt (plain x) z ≡ lt (abs_of x) z
unfolding lt neg abs_of
lt_before nan z u = refl
lt_before (inf true) z u = refl
lt_before (inf false) z u = refl
lt_before (fin false m e) z u = rw (nothing_below (m * up e * 1) (down e)) refl
lt_before (fin true m e) z u = go (ltb 0 (m * up e * 1 + 0 * down e)) (ltb-false 0 (m * up e * 1 + 0 * down e))
  where
    go : (b : Bool) → (b ≡ false → m * up e * 1 + 0 * down e ≤ 0) → lt (minus_plain m e b) z ≡ lt (fin false m e) z
    go true h = refl
    go false h = zero_before m e z (nothing_before (m * up e) (down e) (h refl)) u

minus_zero : (n : ℕ) (d : ℤ) → lt (fin true n d) zero64 ≡ false → n * up d ≡ 0
unfolding lt
minus_zero n d h = nothing_before (n * up d) (down d) (ltb-false 0 (n * up d * 1 + 0 * down d) h)

lt_after : (x y : Float) → lt (abs_of x) (plain y) ≡ lt (abs_of x) (abs_of y)
unfolding neg
lt_after x nan = unfold lt abs_of in refl
lt_after x (inf true) = unfold lt abs_of in refl
lt_after x (inf false) = unfold lt abs_of in refl
lt_after x (fin false n d) = unfold lt abs_of in rw (nothing_below (n * up d * 1) (down d)) refl
lt_after x (fin true n d) = unfold abs_of in go (lt (fin true n d) zero64) (minus_zero n d)
  where
    go : (b : Bool) → (b ≡ false → n * up d ≡ 0) → lt (abs_of x) (minus_plain n d b) ≡ lt (abs_of x) (fin false n d)
    go true h = refl
    go false h = zero_after x n d (h refl)

-- which of two lies nearer is told by their gaps
pub gaps_tell : (x a b : Float) → lt (gap_of a x) (gap_of b x) ≡ is_nearer x a b
unfolding gap_of is_nearer
gaps_tell x a b = lt_before (sub binary64 a x) (plain (sub binary64 b x)) (plain_unsigned (sub binary64 b x)) ∙ lt_after (sub binary64 a x) (sub binary64 b x)
