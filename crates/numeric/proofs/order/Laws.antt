-- On the finite values that fit, total_order is a total order: reflexive and total, antisymmetric, transitive.
use mathlib.Core.Path.{◌≡◌, sym, subst}
use mathlib.Core.Logic.{◌⊎◌, inl, inr}
use Prim.Native.Nat.{◌≤◌, ◌<◌}
use native.Mathlib.Nat.{le_trans, le_antisymm, le_of_lt}
use lib.Dec.{T, leb, leb→le, le→leb, nleb→lt}
use mathlib.Core.Bool.{Bool, true, false, not}
use lib.Ieee.{Float}
use Rattle.numeric.specs.TotalOrder.{total_order}
use Rattle.numeric.proofs.order.Rank.{key, keyed, key_inj}
use Rattle.numeric.proofs.Values.{Number}

module _ {x y : Float} (p : Number x) (q : Number y) where
  pub to_key : T (total_order x y) → key x ≤ key y
  to_key t = leb→le (key x) (key y) (subst T (keyed x y p.is_finite q.is_finite p.is_held q.is_held) t)

  pub of_key : key x ≤ key y → T (total_order x y)
  of_key h = subst T (sym (keyed x y p.is_finite q.is_finite p.is_held q.is_held)) (le→leb (key x) (key y) h)

pub total : {x y : Float} → Number x → Number y → T (total_order x y) ⊎ T (total_order y x)
total {x} {y} p q = go (leb (key x) (key y)) (leb→le (key x) (key y)) (nleb→lt (key x) (key y))
  where
    go : (b : Bool) → (T b → key x ≤ key y) → (T (not b) → key y < key x) → T (total_order x y) ⊎ T (total_order y x)
    go true h k = inl (of_key p q (h tt))
    go false h k = inr (of_key q p (le_of_lt (k tt)))

pub antisym : {x y : Float} → Number x → Number y → T (total_order x y) → T (total_order y x) → x ≡ y
antisym {x} {y} p q h k = key_inj x y p.is_finite q.is_finite p.is_held q.is_held (le_antisymm (to_key p q h) (to_key q p k))

pub trans : {x y z : Float} → Number x → Number y → Number z → T (total_order x y) → T (total_order y z) → T (total_order x z)
trans p q r h k = of_key p r (le_trans (to_key p q h) (to_key q r k))
