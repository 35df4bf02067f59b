-- Behind two near values, with a third behind them, the walk stands inside a group, whatever came before: so the marks from the second on hang on the values
-- from the first on alone.
use mathlib.Core.Path.{◌≡◌, refl, sym, ap, ◌∙◌}
use mathlib.Core.Bool.{Bool, true, false, cond}
use mathlib.Core.List.{List, [], ◌∷◌, ◌++◌}
use Prim.Native.Nat.{ℕ, suc, ◌<◌}
use native.Mathlib.Omega.{arith}
use lib.ListN.{length, take, drop, get_or, length-append, take-append-drop}
use lib.Seq.{drop-cons, length-take-le}
use lib.Dec.{eqb}
use lib.Ieee.{Float, nan}
use borrow.Author.Tests.{lt-ltb}
use Rattle.numeric.specs.Near.{is_near}
use Rattle.grouping_interval.specs.IntervalGrouping.{pair_class, marks_after, class_marks, interval_marks}
use Rattle.grouping_interval.proofs.IntervalLaws.{near_class}

pick : (n r : Bool) (k : ℕ) (a b c z : List ℕ) → drop k a ≡ z → drop k b ≡ z → drop k c ≡ z → drop k (cond n a (cond r b c)) ≡ z
pick true r k a b c z x y w = x
pick false true k a b c z x y w = y
pick false false k a b c z x y w = w

module _ {A : Type 0} (class : A → A → ℕ) where
  after_sync : (last u v w : A) (xs rest : List A) → eqb (class u v) 0 ≡ true
      → drop (suc (length xs)) (marks_after class true last (xs ++ u ∷ v ∷ w ∷ rest)) ≡ marks_after class true u (v ∷ w ∷ rest)
  unfolding marks_after
  after_sync last u v w [] rest e = rw (e, marks_after) refl
  after_sync last u v w (x ∷ []) rest e =
      pick (eqb (class x u) 0) (eqb (class x u) 1) 2 (0 ∷ marks_after class true x (u ∷ v ∷ w ∷ rest)) (0 ∷ 1 ∷ marks_after class true u (v ∷ w ∷ rest))
      (1 ∷ marks_after class true x (u ∷ v ∷ w ∷ rest)) (marks_after class true u (v ∷ w ∷ rest))
      (after_sync x u v w [] rest e) refl (after_sync x u v w [] rest e)
  after_sync last u v w (x ∷ y ∷ xs) rest e =
      pick (eqb (class x y) 0) (eqb (class x y) 1) (suc (suc (suc (length xs)))) (0 ∷ marks_after class true x (y ∷ xs ++ u ∷ v ∷ w ∷ rest))
      (0 ∷ 1 ∷ marks_after class true y (xs ++ u ∷ v ∷ w ∷ rest)) (1 ∷ marks_after class true x (y ∷ xs ++ u ∷ v ∷ w ∷ rest))
      (marks_after class true u (v ∷ w ∷ rest))
      (after_sync x u v w (y ∷ xs) rest e) (after_sync y u v w xs rest e) (after_sync x u v w (y ∷ xs) rest e)

marks_sync : (margin u v w : Float) (xs rest : List Float) → is_near margin u v ≡ true
    → drop (suc (length xs)) (interval_marks margin (xs ++ u ∷ v ∷ w ∷ rest)) ≡ marks_after (pair_class margin) true u (v ∷ w ∷ rest)
unfolding interval_marks class_marks
marks_sync margin u v w [] rest e = rw (lt-ltb 1 (suc (suc (length rest))) (omega arith))
marks_sync margin u v w (x ∷ xs) rest e =
    rw (lt-ltb 1 (length (xs ++ u ∷ v ∷ w ∷ rest)) (omega (arith, length-append xs (u ∷ v ∷ w ∷ rest))))
    (after_sync (pair_class margin) x u v w xs rest (near_class margin u v ∙ e))

-- values j and j + 1 are near, and there is a value j + 2
pub marks_from_lem : (margin : Float) (values : List Float) (j : ℕ) → suc (suc j) < length values
    → is_near margin (get_or values j nan) (get_or values (suc j) nan) ≡ true
    → drop (suc j) (interval_marks margin values) ≡ marks_after (pair_class margin) true (get_or values j nan) (drop (suc j) values)
marks_from_lem margin values j h e =
    (λ i. drop (suc (size i)) (interval_marks margin (whole i)))
    ∙ marks_sync margin (get_or values j nan) (get_or values (suc j) nan) (get_or values (suc (suc j)) nan) (take j values) (drop (suc (suc (suc j))) values) e
    ∙ ap (λ (l : List Float). marks_after (pair_class margin) true (get_or values j nan) l) (sym behind)
  where
    size : j ≡ length (take j values)
    size = sym (length-take-le j values (omega arith))

    behind : drop (suc j) values ≡ get_or values (suc j) nan ∷ get_or values (suc (suc j)) nan ∷ drop (suc (suc (suc j))) values
    behind = let k : suc j < length values = omega arith in rw (drop-cons values (suc j) nan k, drop-cons values (suc (suc j)) nan h)

    whole : values ≡ take j values ++ get_or values j nan ∷ get_or values (suc j) nan ∷ get_or values (suc (suc j)) nan ∷ drop (suc (suc (suc j))) values
    whole = sym (take-append-drop j values)
        ∙ ap (λ (l : List Float). take j values ++ l) (drop-cons values j nan (omega arith) ∙ ap (λ (l : List Float). get_or values j nan ∷ l) behind)
