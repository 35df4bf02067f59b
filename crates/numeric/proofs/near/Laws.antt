-- Near goes both ways, for all values. A number is near itself, and of three numbers in order, where the last is near the first, the middle one is near both.
-- The margin may be any value.
-- The size of a difference is the distance of the two values, rounded; of two numbers, in units of the smallest value.
use mathlib.Core.Path.{◌≡◌, refl, sym, ap, ◌∙◌}
use mathlib.Core.Bool.{Bool, true, false, not, ◌&&◌, cond, true≢false}
use Prim.Native.Nat.{ℕ, zero, suc, ◌+◌, ◌-◌, ◌*◌, ◌≤◌, ◌<◌}
use native.Mathlib.Nat.{mul_comm, mul-le-mul_right, mul-pos, zero-lt-suc, zero-mul}
use native.Mathlib.Omega.{arith}
use lib.IntN.{ℤ}
use lib.Dec.{T, ltb, eqb, ltb→lt, nltb→le, eqb→eq}
use lib.Pow.{pow_pos}
use lib.Ieee.{Float, nan, inf, fin, binary64, low, up, down, fits, le, neg, round, sum, add, sub}
use lib.Ieee.Bits.{is_true}
use lib.Ieee.Fits.{neg-fits, down_pos, and_l, and_r, and_i, eq→eqb}
use lib.Ieee.Positive.{through}
use lib.Ieee.Order.{round_mono}
use lib.Ieee.Scale.{finite}
use Rattle.numeric.specs.Constants.{zero64}
use Rattle.numeric.specs.Near.{abs_of, is_near}
use Rattle.numeric.proofs.Values.{Number, at_most, of_at_most, not_zero}
use Rattle.numeric.proofs.Units.{L, units_of, plus, minus, dist, sum_units, above, under, le_to_units}
use Rattle.numeric.proofs.Sign.{Signed, neg_round, round_signed}

-- ---- le is transitive from two values with the sign +
no_factor : (a b : ℕ) → 0 < b → a * b ≡ 0 → a ≡ 0
no_factor zero b h e = refl
no_factor (suc a) b h e = absurd (not_zero (suc a * b) (mul-pos (zero-lt-suc a) h) e)

none_left : (a b : ℕ) → a ≤ b → b ≡ 0 → a ≡ 0
none_left a b h e = omega arith

-- 0 ≤ x ≤ y ≤ -z makes all three zero
zeros : (m : ℕ) (ue de n ud dd i uj dj : ℕ) → 0 < dd → 0 < dj → m * ue * dd ≤ n * ud * de → T (eqb (n * ud * dj) (i * uj * dd) && eqb (n * ud * dj) 0)
    → T (eqb (m * ue * dj) (i * uj * de) && eqb (m * ue * dj) 0)
zeros m ue de n ud dd i uj dj D J h t =
    let b = n * ud * dj in
    let c = i * uj * dd in
    let y : n * ud ≡ 0 = no_factor (n * ud) dj J (eqb→eq b 0 (and_r (eqb b c) (eqb b 0) t)) in
    let z : i * uj ≡ 0 = no_factor (i * uj) dd D (sym (eqb→eq b c (and_l (eqb b c) (eqb b 0) t)) ∙ eqb→eq b 0 (and_r (eqb b c) (eqb b 0) t)) in
    let x : m * ue ≡ 0 = no_factor (m * ue) dd D (none_left (m * ue * dd) (n * ud * de) h (rw (y, zero-mul de))) in
    let p : m * ue * dj ≡ 0 = rw (x, zero-mul dj) in
    let q : i * uj * de ≡ 0 = rw (z, zero-mul de) in
    and_i (eqb (m * ue * dj) (i * uj * de)) (eqb (m * ue * dj) 0) (eq→eqb (p ∙ sym q)) (eq→eqb p)

le_trans_plus : (x y z : Float) → Signed x false → Signed y false → T (le x y) → T (le y z) → T (le x z)
unfolding le
le_trans_plus nan y z p q h k = absurd p
le_trans_plus (inf true) y z p q h k = absurd (true≢false p)
le_trans_plus (inf false) nan z p q h k = absurd q
le_trans_plus (inf false) (inf true) z p q h k = absurd (true≢false q)
le_trans_plus (inf false) (inf false) z p q h k = k
le_trans_plus (inf false) (fin t n d) z p q h k = absurd h
le_trans_plus (fin true m e) y z p q h k = absurd (true≢false p)
le_trans_plus (fin false m e) nan z p q h k = absurd q
le_trans_plus (fin false m e) (inf true) z p q h k = absurd (true≢false q)
le_trans_plus (fin false m e) (inf false) nan p q h k = absurd k
le_trans_plus (fin false m e) (inf false) (inf true) p q h k = absurd k
le_trans_plus (fin false m e) (inf false) (inf false) p q h k = tt
le_trans_plus (fin false m e) (inf false) (fin o i j) p q h k = absurd k
le_trans_plus (fin false m e) (fin true n d) z p q h k = absurd (true≢false q)
le_trans_plus (fin false m e) (fin false n d) nan p q h k = absurd k
le_trans_plus (fin false m e) (fin false n d) (inf true) p q h k = absurd k
le_trans_plus (fin false m e) (fin false n d) (inf false) p q h k = tt
le_trans_plus (fin false m e) (fin false n d) (fin true i j) p q h k =
    zeros m (up e) (down e) n (up d) (down d) i (up j) (down j) (down_pos d) (down_pos j) (at_most (m * up e * down d) (n * up d * down e) h) k
le_trans_plus (fin false m e) (fin false n d) (fin false i j) p q h k =
    of_at_most (m * up e * down j) (i * up j * down e)
    (through (m * up e) (n * up d) (i * up j) (down e) (down d) (down j) (down_pos d)
    (at_most (m * up e * down d) (n * up d * down e) h) (at_most (n * up d * down j) (i * up j * down d) k))

-- ---- the size of a rounded number
abs_neg : (x : Float) → abs_of (neg x) ≡ abs_of x
unfolding abs_of neg
abs_neg nan = refl
abs_neg (inf s) = refl
abs_neg (fin s m e) = refl

abs_plus : (x : Float) → Signed x false → abs_of x ≡ x
unfolding abs_of
abs_plus nan h = absurd h
abs_plus (inf s) h = rw h
abs_plus (fin s m e) h = rw h

abs_round : (s : Bool) (n c : ℕ) → abs_of (round binary64 s n c) ≡ round binary64 false n c
abs_round false n c = abs_plus (round binary64 false n c) (round_signed false n c)
abs_round true n c = ap abs_of (sym (neg_round n c)) ∙ abs_neg (round binary64 false n c) ∙ abs_plus (round binary64 false n c) (round_signed false n c)

-- ---- the size of a difference
over_is : (u v : ℕ) → u < v → v - u ≡ u - v + (v - u)
over_is u v h = omega arith

under_is : (u v : ℕ) → v ≤ u → u - v ≡ u - v + (v - u)
under_is u v h = omega arith

abs_mixed : (s t : Bool) (u v c : ℕ)
    → abs_of (cond (ltb u v) (round binary64 t (v - u) c) (round binary64 (s && ltb v u) (u - v) c)) ≡ round binary64 false (dist u v) c
abs_mixed s t u v c = go (ltb u v) (ltb→lt u v) (nltb→le u v)
  where
    go : (b : Bool) → (T b → u < v) → (T (not b) → v ≤ u)
        → abs_of (cond b (round binary64 t (v - u) c) (round binary64 (s && ltb v u) (u - v) c)) ≡ round binary64 false (dist u v) c
    go true h k = abs_round t (v - u) c ∙ rw (← over_is u v (h tt))
    go false h k = abs_round (s && ltb v u) (u - v) c ∙ rw (← under_is u v (k tt))

-- how far apart two signed numbers are
abbrev distance : Bool → ℕ → Bool → ℕ → ℕ
distance s u t v = dist (plus s u + minus t v) (plus t v + minus s u)

dist_ff : (u v : ℕ) → dist u v ≡ dist (u + 0) (v + 0)
dist_ff u v = omega arith

dist_tt : (u v : ℕ) → dist u v ≡ dist (0 + v) (0 + u)
dist_tt u v = omega arith

dist_ft : (u v : ℕ) → u + v ≡ dist (u + v) (0 + 0)
dist_ft u v = omega arith

dist_tf : (u v : ℕ) → u + v ≡ dist (0 + 0) (v + u)
dist_tf u v = omega arith

-- the difference of ±u / c and ±v / c
abs_diff : (s : Bool) (u : ℕ) (t : Bool) (v c : ℕ) → abs_of (sum binary64 s u (not t) v c) ≡ round binary64 false (distance s u t v) c
unfolding sum
abs_diff false u false v c = abs_mixed false true u v c ∙ rw (← dist_ff u v)
abs_diff true u true v c = abs_mixed true false u v c ∙ rw (← dist_tt u v)
abs_diff false u true v c = abs_round false (u + v) c ∙ rw (← dist_ft u v)
abs_diff true u false v c = abs_round true (u + v) c ∙ rw (← dist_tf u v)

-- ---- a - b and b - a have one size, whatever a and b are
swap : (a b : ℕ) → dist a b ≡ dist b a
swap a b = omega arith

turned : (s : Bool) (u : ℕ) (t : Bool) (v c : ℕ) → abs_of (sum binary64 s u (not t) v c) ≡ abs_of (sum binary64 t v (not s) u c)
turned s u t v c = abs_diff s u t v c ∙ rw (swap (plus s u + minus t v) (plus t v + minus s u)) (sym (abs_diff t v s u c))

size_turned : (a b : Float) → abs_of (sub binary64 a b) ≡ abs_of (sub binary64 b a)
unfolding sub add neg abs_of
size_turned nan nan = refl
size_turned nan (inf t) = refl
size_turned nan (fin t n d) = refl
size_turned (inf s) nan = refl
size_turned (inf true) (inf true) = refl
size_turned (inf true) (inf false) = refl
size_turned (inf false) (inf true) = refl
size_turned (inf false) (inf false) = refl
size_turned (inf s) (fin t n d) = refl
size_turned (fin s m e) nan = refl
size_turned (fin s m e) (inf t) = refl
size_turned (fin s m e) (fin t n d) =
    turned s (m * up e * down d) t (n * up d * down e) (down e * down d)
    ∙ rw (mul_comm (down e) (down d))

pub near_turned : (margin a b : Float) → is_near margin a b ≡ is_near margin b a
unfolding is_near
near_turned margin a b = rw (size_turned a b)

-- ---- near, of numbers
abbrev apart : Float → Float → ℕ
apart x y = dist (above x + under y) (above y + under x)

sub_opened : (s : Bool) (m : ℕ) (e : ℤ) (t : Bool) (n : ℕ) (d : ℤ) → sub binary64 (fin s m e) (fin t n d) ≡ add binary64 (fin s m e) (fin (not t) n d)
unfolding sub neg
sub_opened s m e t n d = refl

flipped : (t : Bool) (n : ℕ) (d : ℤ) → T (fits binary64 (fin t n d)) → T (fits binary64 (fin (not t) n d))
unfolding neg
flipped t n d g = neg-fits binary64 (fin t n d) g

size_units : (x y : Float) → T (finite x) → T (finite y) → T (fits binary64 x) → T (fits binary64 y)
    → abs_of (sub binary64 x y) ≡ round binary64 false (apart x y) L
size_units nan y p q f g = absurd p
size_units (inf s) y p q f g = absurd p
size_units (fin s m e) nan p q f g = absurd q
size_units (fin s m e) (inf t) p q f g = absurd q
size_units (fin s m e) (fin t n d) p q f g =
    rw (sub_opened s m e t n d, sum_units s m e (not t) n d f (flipped t n d g)) (abs_diff s (units_of m e) t (units_of n d) L)

nowhere : (a : ℕ) → dist a a ≡ 0
nowhere a = omega arith

zero_rounded : round binary64 false 0 L ≡ zero64
unfolding round
zero_rounded = refl

module _ (margin : Float) where
  near_units : {x y : Float} → Number x → Number y → is_near margin x y ≡ le (round binary64 false (apart x y) L) margin
  unfolding is_near
  near_units {x} {y} p q = rw (size_units x y p.is_finite q.is_finite p.is_held q.is_held)

  -- what rounds a smaller distance is no larger
  le_less : (n k : ℕ) → n ≤ k → T (le (round binary64 false k L) margin) → T (le (round binary64 false n L) margin)
  le_less n k h t =
      le_trans_plus (round binary64 false n L) (round binary64 false k L) margin (round_signed false n L) (round_signed false k L)
      (round_mono binary64 n L k L (pow_pos (low binary64)) (pow_pos (low binary64)) (mul-le-mul_right L h)) t

  -- of three in order
  module _ {x y z : Float} (p : Number x) (q : Number y) (r : Number z) (h : T (le x y)) (k : T (le y z)) (t : T (is_near margin z x)) where
    wide : T (le (round binary64 false (apart z x) L) margin)
    wide = rw (near_units r p) at t

    pub near-between : T (is_near margin y x)
    near-between =
        rw (near_units q p)
        (le_less (apart y x) (apart z x) (omega (arith, le_to_units p q h, le_to_units q r k)) wide)

    pub near_above : T (is_near margin z y)
    near_above =
        rw (near_units r q)
        (le_less (apart z y) (apart z x) (omega (arith, le_to_units p q h, le_to_units q r k)) wide)

  pub near_self : {x : Float} → Number x → T (le zero64 margin) → is_near margin x x ≡ true
  near_self {x} p t = near_units p p ∙ rw (nowhere (above x + under x), zero_rounded) (is_true (le zero64 margin) t)
