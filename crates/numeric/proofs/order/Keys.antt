-- The total order of two numbers, asked both ways, is the order by value and then by sign.
use Rattle.std.proofs.Common.{◌≡◌, refl, ap, ◌∙◌, Bool, true, false}
use mathlib.Core.Logic.{⊎_elim}
use mathlib.Core.Bool.{not, ◌&&◌, ◌||◌, cond, true≢false}
use lib.Dec.{T}
use lib.Ieee.{Float, lt, eq}
use Rattle.std.specs.Float.{NotNan}
use Rattle.std.specs.Ordering.{bool_cmp, ordering_then}
use Rattle.std.specs.declared.cmp.Ordering.TheVariants.{Less, Equal, Greater}
use Rattle.std.proofs.lemmas.Float.{floats_per, lt_irrefl, lt_trans, eq-not_lt, eq_flip, lt-or-eq, le_of_not-lt}
use Rattle.numeric.specs.TotalOrder.{total_order, negative}

abbrev pub plus : Float → Bool
plus x = not (negative x)

signs : (s t : Bool) → bool_cmp (t || not s) (s || not t) ≡ bool_cmp (not s) (not t)
signs false false = refl
signs false true = refl
signs true false = refl
signs true true = refl

-- l, g and e: the first of two numbers is less than, greater than or equal to the second; s and t: their signs
keys : (l g e : Bool) → (T l → T g → ⊥) → (T e → T l → ⊥) → (T e → T g → ⊥) → (T (not l) → T (not g) → T e) → (s t : Bool)
    → bool_cmp (g || (e && (t || not s))) (l || (e && (s || not t))) ≡ ordering_then (cond l Less (cond g Greater Equal)) (bool_cmp (not s) (not t))
keys true true e a b c d s t = absurd (a tt tt)
keys true false true a b c d s t = absurd (b tt tt)
keys true false false a b c d s t = refl
keys false true true a b c d s t = absurd (c tt tt)
keys false true false a b c d s t = refl
keys false false true a b c d s t = signs s t
keys false false false a b c d s t = absurd (d tt tt)

pub compared_by_keys : (x y : Float) → NotNan x → NotNan y
    → bool_cmp (total_order y x) (total_order x y) ≡ ordering_then (cond (lt x y) Less (cond (lt y x) Greater Equal)) (bool_cmp (plus x) (plus y))
unfolding total_order
compared_by_keys x y p q =
    ap (λ e. bool_cmp (lt y x || (e && (negative y || not (negative x)))) (total_order x y)) (floats_per.symm y x)
    ∙ keys (lt x y) (lt y x) (eq x y) (λ h k. lt_irrefl x (lt_trans x y x h k)) (eq-not_lt x y) (λ e. eq-not_lt y x (eq_flip x y e))
    (λ h k. ⊎_elim (λ a. absurd (both (lt y x) a k)) (λ e. eq_flip y x e) (lt-or-eq y x (le_of_not-lt x y p q h)))
    (negative x) (negative y)
  where
    both : (b : Bool) → T b → T (not b) → ⊥
    both true h k = k
    both false h k = h

-- where one of two numbers does not stand at or before the other, the other stands at or before it
other : (l g e s t : Bool) → (T (not l) → T (not g) → T e) → (g || (e && (t || not s))) ≡ false → (l || (e && (s || not t))) ≡ true
other true g e s t d h = refl
other false true e s t d h = absurd (true≢false h)
other false false false s t d h = absurd (d tt tt)
other false false true true t d h = refl
other false false true false true d h = absurd (true≢false h)
other false false true false false d h = refl

pub other_before : (x y : Float) → NotNan x → NotNan y → total_order y x ≡ false → total_order x y ≡ true
unfolding total_order
other_before x y p q h =
    other (lt x y) (lt y x) (eq x y) (negative x) (negative y)
    (λ l g. ⊎_elim (λ a. absurd (both (lt y x) a g)) (λ e. eq_flip y x e) (lt-or-eq y x (le_of_not-lt x y p q l)))
    (ap (λ e. lt y x || (e && (negative y || not (negative x)))) (floats_per.symm x y) ∙ h)
  where
    both : (b : Bool) → T b → T (not b) → ⊥
    both true h k = k
    both false h k = h
