-- Which of two lies nearer to a number: of two not both ways, and what lies nearer than a second lies nearer than all that do not lie nearer than it.
use mathlib.Core.Path.{◌≡◌, refl, sym}
use mathlib.Core.Logic.{inl, inr}
use mathlib.Core.Bool.{Bool, true, false, not, ◌&&◌, beq, cond, true≢false}
use Prim.Native.Nat.{ℕ, ◌-◌, ◌+◌, ◌*◌, ◌≤◌, ◌<◌}
use native.Mathlib.Omega.{arith}
use borrow.Author.Tests.{ltb-true, ltb-false, lt-ltb, le-ltb}
use lib.Dec.{T, ltb}
use lib.Ieee.{Float, nan, inf, fin, binary64, up, down, neg, round, sum, add, sub, lt, is_nan}
use lib.Ieee.Fits.{down_pos}
use lib.Ieee.Positive.{through}
use lib.Ieee.Scale.{finite}
use Rattle.numeric.specs.Near.{abs_of, is_nearer}
use Rattle.numeric.proofs.Tests.{le_or_lt}
use Rattle.numeric.proofs.Sign.{Signed, round_signed}

-- ---- sizes

less_other : (x y : Float) → lt (abs_of x) (abs_of y) ≡ true → lt (abs_of y) (abs_of x) ≡ false
unfolding lt abs_of
less_other nan y e = absurd (true≢false (sym e))
less_other (inf s) nan e = absurd (true≢false (sym e))
less_other (inf s) (inf t) e = absurd (true≢false (sym e))
less_other (inf s) (fin t n d) e = absurd (true≢false (sym e))
less_other (fin s m e) nan h = absurd (true≢false (sym h))
less_other (fin s m e) (inf t) h = refl
less_other (fin s m e) (fin t n d) h =
    let a = m * up e * down d in
    let b = n * up d * down e in
    le-ltb b a (omega (arith, ltb-true a b h))

-- a / p < b / q and b / q ≤ c / r make a / p < c / r
fractions : (a b c p q r : ℕ) → 0 < r → a * q < b * p → b * r ≤ c * q → a * r < c * p
fractions a b c p q r R h k =
    elim (le_or_lt (c * p) (a * r)) [
      | inl l ↦ absurd (omega (arith, h, through b c a q r p R k l))
      | inr g ↦ g
    ]

less_past : (x y z : Float) → is_nan z ≡ false → lt (abs_of x) (abs_of y) ≡ true → lt (abs_of z) (abs_of y) ≡ false → lt (abs_of x) (abs_of z) ≡ true
unfolding lt abs_of is_nan
less_past nan y z n h k = absurd (true≢false (sym h))
less_past (inf s) nan z n h k = absurd (true≢false (sym h))
less_past (inf s) (inf t) z n h k = absurd (true≢false (sym h))
less_past (inf s) (fin t i d) z n h k = absurd (true≢false (sym h))
less_past (fin s m e) nan z n h k = absurd (true≢false (sym h))
less_past (fin s m e) (inf t) nan n h k = absurd (true≢false n)
less_past (fin s m e) (inf t) (inf u) n h k = refl
less_past (fin s m e) (inf t) (fin u j g) n h k = absurd (true≢false k)
less_past (fin s m e) (fin t i d) nan n h k = absurd (true≢false n)
less_past (fin s m e) (fin t i d) (inf u) n h k = refl
less_past (fin s m e) (fin t i d) (fin u j g) n h k =
    lt-ltb _ _
    (fractions (m * up e) (i * up d) (j * up g) (down e) (down d) (down g) (down_pos g) (ltb-true _ _ h) (ltb-false _ _ k))

-- ---- differences

signed_number : (x : Float) (s : Bool) → Signed x s → is_nan x ≡ false
unfolding is_nan
signed_number nan s h = absurd h
signed_number (inf t) s h = refl
signed_number (fin t m e) s h = refl

sum_number : (s : Bool) (a : ℕ) (t : Bool) (b c : ℕ) → is_nan (sum binary64 s a t b c) ≡ false
unfolding sum
sum_number s a t b c = go (beq s t) (ltb a b)
  where
    go : (p q : Bool)
        → is_nan (cond p (round binary64 s (a + b) c) (cond q (round binary64 t (b - a) c) (round binary64 (s && ltb b a) (a - b) c))) ≡ false
    go true q = signed_number _ s (round_signed s (a + b) c)
    go false true = signed_number _ t (round_signed t (b - a) c)
    go false false = signed_number _ (s && ltb b a) (round_signed (s && ltb b a) (a - b) c)

-- a finite number minus one that is no NaN is none
sub_number : (a x : Float) → T (finite a) → is_nan x ≡ false → is_nan (sub binary64 a x) ≡ false
unfolding sub add neg is_nan
sub_number nan x f n = absurd f
sub_number (inf s) x f n = absurd f
sub_number (fin s m e) nan f n = absurd (true≢false n)
sub_number (fin s m e) (inf t) f n = refl
sub_number (fin s m e) (fin t i d) f n = sum_number s (m * up e * down d) (not t) (i * up d * down e) (down e * down d)

-- what something lies nearer to than another is no NaN
nearer_number : (x a b : Float) → is_nearer x a b ≡ true → is_nan x ≡ false
unfolding is_nearer sub add neg abs_of lt is_nan
nearer_number nan nan b h = absurd (true≢false (sym h))
nearer_number nan (inf s) b h = absurd (true≢false (sym h))
nearer_number nan (fin s m e) b h = absurd (true≢false (sym h))
nearer_number (inf s) a b h = refl
nearer_number (fin s m e) a b h = refl

-- ---- nearer

pub nearer_other : (x a b : Float) → is_nearer x a b ≡ true → is_nearer x b a ≡ false
unfolding is_nearer
nearer_other x a b h = less_other (sub binary64 a x) (sub binary64 b x) h

pub nearer_past : (x a b c : Float) → T (finite c) → is_nearer x a b ≡ true → is_nearer x c b ≡ false → is_nearer x a c ≡ true
unfolding is_nearer
nearer_past x a b c f h k =
    less_past (sub binary64 a x) (sub binary64 b x) (sub binary64 c x) (sub_number c x f (nearer_number x a b h)) h k
