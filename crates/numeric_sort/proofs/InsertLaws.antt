-- The laws of `insert`. By its rank a value's place in the total order is a number, so that two insertions commute, and an insertion can be undone.
use mathlib.Core.Path.{◌≡◌, refl, sym, ap, ◌∙◌}
use mathlib.Core.Logic.{⊎_elim}
use mathlib.Core.Bool.{Bool, true, false, cond}
use mathlib.Core.List.{List, [], ◌∷◌}
use Prim.Native.Nat.{ℕ, suc, ◌≤◌, ◌<◌}
use native.Mathlib.Nat.{le_of_lt, le_antisymm}
use native.Mathlib.Omega.{arith}
use lib.Dec.{T, leb}
use lib.ListN.{length}
use lib.Ieee.{Float}
use borrow.Author.Tests.{le-leb, lt-leb}
use Rattle.numeric.specs.TotalOrder.{total_order}
use Rattle.numeric.proofs.Tests.{le_or_lt}
use Rattle.numeric.proofs.Values.{Number}
use Rattle.numeric.proofs.order.Rank.{key, keyed, key_inj}
use Rattle.numeric.proofs.order.Laws.{to_key, of_key}
use Rattle.numeric_sort.specs.Ordered.{insert}

-- ---- ranks

unfoldable pub rank : Float → ℕ
rank x = key x

module _ {x y : Float} (p : Number x) (q : Number y) where
  by_rank : total_order x y ≡ leb (rank x) (rank y)
  unfolding rank
  by_rank = keyed x y p.is_finite q.is_finite p.is_held q.is_held

  pub one_rank : rank x ≡ rank y → x ≡ y
  unfolding rank
  one_rank e = key_inj x y p.is_finite q.is_finite p.is_held q.is_held e

  pub rank_le : T (total_order x y) → rank x ≤ rank y
  unfolding rank
  rank_le t = to_key p q t

  pub of_rank : rank x ≤ rank y → T (total_order x y)
  unfolding rank
  of_rank h = of_key p q h

  in_order_lem : rank x ≤ rank y → total_order x y ≡ true
  in_order_lem h = by_rank ∙ le-leb (rank x) (rank y) h

  out_of_order : rank y < rank x → total_order x y ≡ false
  out_of_order h = by_rank ∙ lt-leb (rank x) (rank y) h

-- all are finite values of the format
pub data Numbers : List Float → Type 0 where
  none : Numbers []
  also : {x : Float} {xs : List Float} → Number x → Numbers xs → Numbers (x ∷ xs)

-- ---- one insertion

insert_none : (x : Float) → insert x [] ≡ x ∷ []
unfolding insert
insert_none x = refl

module _ {x y : Float} (p : Number x) (q : Number y) (ys : List Float) where
  pub insert_here : rank x ≤ rank y → insert x (y ∷ ys) ≡ x ∷ y ∷ ys
  unfolding insert
  insert_here h = rw (in_order_lem p q h)

  pub insert_past : rank y < rank x → insert x (y ∷ ys) ≡ y ∷ insert x ys
  unfolding insert
  insert_past h = rw (out_of_order p q h)

pub numbers-insert : {x : Float} {ys : List Float} → Number x → Numbers ys → Numbers (insert x ys)
unfolding insert
numbers-insert p none = also p none
numbers-insert {x} p (also {x = y} {xs = ys} q r) =
    ⊎_elim
    (λ h. rw (insert_here p q ys h) (also p (also q r)))
    (λ h. rw (insert_past p q ys h) (also q (numbers-insert p r)))
    (le_or_lt (rank x) (rank y))

pub length-insert : (x : Float) (ys : List Float) → length (insert x ys) ≡ suc (length ys)
unfolding insert
length-insert x [] = refl
length-insert x (y ∷ ys) = by (total_order x y) (length-insert x ys)
  where
    by : (t : Bool) → length (insert x ys) ≡ suc (length ys) → length (cond t (x ∷ y ∷ ys) (y ∷ insert x ys)) ≡ suc (suc (length ys))
    by true e = refl
    by false e = ap suc e

-- ---- two insertions

module _ {x y : Float} (p : Number x) (q : Number y) where
  -- both come before all of zs
  both_here : (zs : List Float) → insert x zs ≡ x ∷ zs → insert y zs ≡ y ∷ zs → insert x (y ∷ zs) ≡ insert y (x ∷ zs)
  both_here zs hx hy =
      ⊎_elim
      (λ h. ⊎_elim
      (λ k. let e : x ≡ y = one_rank p q (le_antisymm h k) in λ i. insert (e i) (sym e i ∷ zs))
      (λ k. rw (insert_here p q zs h, insert_past q p zs k, hy))
      (le_or_lt (rank y) (rank x)))
      (λ h. rw (insert_past p q zs h, insert_here q p zs (le_of_lt h), hx))
      (le_or_lt (rank x) (rank y))

  -- x comes before z, and y behind it
  one_here : {z : Float} → Number z → (zs : List Float) → rank x ≤ rank z → rank z < rank y → insert x (insert y (z ∷ zs)) ≡ insert y (insert x (z ∷ zs))
  one_here {z} r zs h k =
      rw (insert_past q r zs k, insert_here p r (insert y zs) h, insert_here p r zs h, insert_past q p (z ∷ zs) (omega arith), insert_past q r zs k)

pub insert_commute : {x y : Float} {zs : List Float} → Number x → Number y → Numbers zs → insert x (insert y zs) ≡ insert y (insert x zs)
insert_commute {x} {y} p q none = rw (insert_none x, insert_none y) (both_here p q [] (insert_none x) (insert_none y))
insert_commute {x} {y} p q (also {x = z} {xs = zs} r s) =
    ⊎_elim
    (λ h. ⊎_elim
    (λ k. rw (insert_here q r zs k, insert_here p r zs h) (both_here p q (z ∷ zs) (insert_here p r zs h) (insert_here q r zs k)))
    (λ k. one_here p q r zs h k)
    (le_or_lt (rank y) (rank z)))
    (λ h. ⊎_elim
    (λ k. sym (one_here q p r zs k h))
    (λ k. rw (insert_past q r zs k, insert_past p r (insert y zs) h, insert_past p r zs h, insert_past q r (insert x zs) k, insert_commute p q s))
    (le_or_lt (rank y) (rank z)))
    (le_or_lt (rank x) (rank z))

-- ---- an insertion undone

module _ {x u w : Float} (us ws : List Float) (p : Number x) (r : Number u) (s : Number w) (e : insert x (u ∷ us) ≡ insert x (w ∷ ws)) where
  undo_here : rank x ≤ rank u → rank x ≤ rank w → u ∷ us ≡ w ∷ ws
  undo_here h k =
      let f : x ∷ u ∷ us ≡ x ∷ w ∷ ws = sym (insert_here p r us h) ∙ e ∙ insert_here p s ws k in
      cc

  undo_never : rank x ≤ rank u → rank w < rank x → ⊥
  undo_never h k =
      let f : x ∷ u ∷ us ≡ w ∷ insert x ws = sym (insert_here p r us h) ∙ e ∙ insert_past p s ws k in
      let g : x ≡ w = cc in
      omega (arith, ap rank g)

  undo_past : rank u < rank x → rank w < rank x → (u ≡ w) × (insert x us ≡ insert x ws)
  undo_past h k =
      let f : u ∷ insert x us ≡ w ∷ insert x ws = sym (insert_past p r us h) ∙ e ∙ insert_past p s ws k in
      (cc, cc)

pub insert_undo : {x : Float} {us ws : List Float} → Number x → Numbers us → Numbers ws → insert x us ≡ insert x ws → us ≡ ws
insert_undo p none none e = refl
insert_undo {x} p none (also {x = w} {xs = ws} s n) e = absurd (omega (arith, ap length e, length-insert x [], length-insert x (w ∷ ws)))
insert_undo {x} p (also {x = u} {xs = us} r m) none e = absurd (omega (arith, ap length e, length-insert x [], length-insert x (u ∷ us)))
insert_undo {x} p (also {x = u} {xs = us} r m) (also {x = w} {xs = ws} s n) e =
    ⊎_elim
    (λ h. ⊎_elim (λ k. undo_here us ws p r s e h k) (λ k. absurd (undo_never us ws p r s e h k)) (le_or_lt (rank x) (rank w)))
    (λ h. ⊎_elim
    (λ k. absurd (undo_never ws us p s r (sym e) k h))
    (λ k. let d = undo_past us ws p r s e h k in λ i. d.0 i ∷ insert_undo p m n d.1 i)
    (le_or_lt (rank x) (rank w)))
    (le_or_lt (rank x) (rank u))
