-- Signs: a rounded number has the sign that it was given, negation turns the order round, and a negative value is at most one that is not.
use mathlib.Core.Path.{◌≡◌, refl, sym, ap, ◌∙◌, subst}
use mathlib.Core.Logic.{inl, inr}
use mathlib.Core.Bool.{Bool, true, false, not, ◌&&◌, ◌||◌, beq, cond, true≢false, false≢true}
use Prim.Native.Nat.{ℕ, zero, suc, ◌+◌, ◌-◌, ◌*◌, ◌/◌, ◌^◌}
use native.Mathlib.Nat.{add_comm}
use lib.Dec.{T, ltb, eqb, eqb→eq}
use lib.Ieee.{Float, nan, inf, fin, binary64, prec, emax, low, up, down, size, odd, units, le, below, level, round, neg}
use lib.Ieee.Fits.{and_l, and_r, and_i, eq→eqb, round_is, neg-fits}
use lib.Ieee.Nearest.{closest}
use lib.Ieee.Scale.{finite}
use mir.Facts.{or_yes}
use Rattle.numeric.proofs.Tests.{or_l, or_r}
use Rattle.numeric.proofs.Values.{Number}
use Rattle.numeric.proofs.Units.{minus_plus}

-- ---- the sign
neg_odd : (d q k l : ℕ) → neg (odd d false q k l) ≡ odd d true q k l
unfolding odd neg
neg_odd d zero k l = refl
neg_odd d (suc q) k l = refl

neg_units : (q k : ℕ) → neg (units binary64 false q k) ≡ units binary64 true q k
unfolding units
neg_units q k = go (ltb (q * 2 ^ k) (2 ^ (low binary64 + suc (emax binary64))))
  where
    go : (b : Bool)
        → neg (cond b (odd (suc (prec binary64)) false q k (low binary64)) (inf false)) ≡ cond b (odd (suc (prec binary64)) true q k (low binary64)) (inf true)
    go true = neg_odd (suc (prec binary64)) q k (low binary64)
    go false = unfold neg in refl

pub neg_round : (a b : ℕ) → neg (round binary64 false a b) ≡ round binary64 true a b
neg_round a b =
    let n = a * 2 ^ low binary64 in
    let k = size (n / b) - prec binary64 in
    ap neg (round_is binary64 false a b) ∙ neg_units (closest n (b * 2 ^ k)) k ∙ sym (round_is binary64 true a b)

-- ---- le under neg
beq_sym : (s t : Bool) → beq s t ≡ beq (not t) (not s)
beq_sym true true = refl
beq_sym true false = refl
beq_sym false true = refl
beq_sym false false = refl

or_zero : (a b : ℕ) (s t : Bool) → T (eqb a b && (beq s t || eqb a 0)) → T (eqb b a && (beq (not t) (not s) || eqb b 0))
or_zero a b s t h =
    let e = eqb→eq a b (and_l (eqb a b) (beq s t || eqb a 0) h) in
    and_i (eqb b a) (beq (not t) (not s) || eqb b 0) (eq→eqb (sym e))
    (elim (or_yes (beq s t) (eqb a 0) (and_r (eqb a b) (beq s t || eqb a 0) h)) [
      | inl x ↦ or_l (beq (not t) (not s)) (eqb b 0) (subst T (beq_sym s t) x)
      | inr x ↦ or_r (beq (not t) (not s)) (eqb b 0) (rw e at x)
    ])

below_flip : (s : Bool) (a : ℕ) (t : Bool) (b : ℕ) → T (below s a t b) → T (below (not t) b (not s) a)
below_flip false a false b h = h
below_flip false a true b h = absurd h
below_flip true a false b h = rw (add_comm b a) h
below_flip true a true b h = h

pub le_neg : (x y : Float) → T (le x y) → T (le (neg y) (neg x))
unfolding le neg
le_neg nan y h = absurd h
le_neg (inf s) nan h = absurd (elim (or_yes false false h) [ inl z ↦ z | inr z ↦ z ])
le_neg (inf true) (inf true) h = tt
le_neg (inf true) (inf false) h = tt
le_neg (inf false) (inf true) h = absurd h
le_neg (inf false) (inf false) h = tt
le_neg (inf true) (fin true n d) h = tt
le_neg (inf true) (fin false n d) h = tt
le_neg (inf false) (fin t n d) h = absurd h
le_neg (fin s m e) nan h = absurd h
le_neg (fin s m e) (inf true) h = absurd h
le_neg (fin s m e) (inf false) h = tt
le_neg (fin s m e) (fin t n d) h =
    let a = m * up e * down d in
    let b = n * up d * down e in
    elim (or_yes (below s a t b) (level s a t b) h) [
      | inl x ↦ or_l (below (not t) b (not s) a) (level (not t) b (not s) a) (below_flip s a t b x)
      | inr x ↦ or_r (below (not t) b (not s) a) (level (not t) b (not s) a) (or_zero a b s t x)
    ]

-- ---- a negative and one that is not
abbrev pub Signed : Float → Bool → Type 0
Signed nan s = ⊥
Signed (inf t) s = t ≡ s
Signed (fin t m e) s = t ≡ s

odd_signed : (d : ℕ) (s : Bool) (q k l : ℕ) → Signed (odd d s q k l) s
unfolding odd
odd_signed d s zero k l = refl
odd_signed d s (suc q) k l = refl

units_signed : (s : Bool) (q k : ℕ) → Signed (units binary64 s q k) s
unfolding units
units_signed s q k = go (ltb (q * 2 ^ k) (2 ^ (low binary64 + suc (emax binary64))))
  where
    go : (b : Bool) → Signed (cond b (odd (suc (prec binary64)) s q k (low binary64)) (inf s)) s
    go true = odd_signed (suc (prec binary64)) s q k (low binary64)
    go false = refl

pub round_signed : (s : Bool) (a b : ℕ) → Signed (round binary64 s a b) s
round_signed s a b =
    let n = a * 2 ^ low binary64 in
    let k = size (n / b) - prec binary64 in
    rw (round_is binary64 s a b) (units_signed s (closest n (b * 2 ^ k)) k)

pub across : (x y : Float) → Signed x true → Signed y false → T (le x y)
unfolding le
across nan y p q = absurd p
across (inf true) nan p q = absurd q
across (inf true) (inf true) p q = absurd (true≢false q)
across (inf true) (inf false) p q = tt
across (inf false) y p q = absurd (false≢true p)
across (inf true) (fin t n d) p q = tt
across (fin false m e) y p q = absurd (false≢true p)
across (fin true m e) nan p q = absurd q
across (fin true m e) (inf true) p q = absurd (true≢false q)
across (fin true m e) (inf false) p q = tt
across (fin true m e) (fin true n d) p q = absurd (true≢false q)
across (fin true m e) (fin false n d) p q = minus_plus (m * up e * down d) (n * up d * down e)

neg_finite : (y : Float) → T (finite y) → T (finite (neg y))
unfolding neg
neg_finite nan h = absurd h
neg_finite (inf s) h = absurd h
neg_finite (fin s m e) h = tt

pub neg_number : {y : Float} → Number y → Number (neg y)
neg_number {y} h = record { is_finite = neg_finite y h.is_finite; is_held = neg-fits binary64 y h.is_held }
