-- What the class of two times says of them; and when two lists have the same marks. The walk of the looks passes the same values as that of the marks, so a
-- pair that is not looked at plays no part in the marks either.
use mathlib.Core.Path.{◌≡◌, refl, sym, ap, ◌∙◌}
use mathlib.Core.Logic.{◌⊎◌, inl, inr}
use mathlib.Core.Bool.{Bool, true, false, not, ◌&&◌, cond, or-true, true≢false}
use mathlib.Core.List.{List, [], ◌∷◌}
use Prim.Native.Nat.{ℕ, zero, suc, ◌+◌, ◌<◌}
use native.Mathlib.Omega.{arith}
use lib.Dec.{T, eqb, ltb, eqb_refl}
use lib.ListN.{length, get_or}
use lib.Ieee.{Float, binary64, add, lt}
use lib.Ieee.Bits.{is_true}
use borrow.Author.Tests.{ne_eqb}
use Rattle.std.proofs.lemmas.Bool.{eqb-true}
use Rattle.numeric.specs.Near.{is_near}
use Rattle.grouping_interval.specs.IntervalGrouping.{is_rise, pair_class, marks_after, class_marks}
use Rattle.grouping_interval.specs.LookedAt.{looked_after, looked_at, among}

-- one of three tests
abbrev pub one_of : Bool → Bool → Bool → ℕ → Bool
one_of a b c zero = a
one_of a b c (suc zero) = b
one_of a b c (suc (suc k)) = c

module _ (margin v w : Float) where
  -- what a rise is
  pub rise_is : is_rise margin v w ≡ lt (add binary64 v margin) w
  unfolding is_rise
  rise_is = refl

  -- whether what a class says holds: near, a rise that is not near, neither
  abbrev pub class_holds : ℕ → Bool
  class_holds class =
      one_of (is_near margin v w) (not (is_near margin v w) && is_rise margin v w) (not (is_near margin v w) && not (is_rise margin v w)) class

  -- it holds of the two exactly where it is their class
  pub class_told : (class : ℕ) → pair_class margin v w ≡ class → T (class_holds class)
  unfolding pair_class
  class_told class e = rw (← e) (by (is_near margin v w) (is_rise margin v w))
    where
      by : (n r : Bool) → T (one_of n (not n && r) (not n && not r) (cond n 0 (cond r 1 2)))
      by true r = tt
      by false true = tt
      by false false = tt

  pub class_telling : (class : ℕ) → class < 3 → T (class_holds class) → pair_class margin v w ≡ class
  unfolding pair_class
  class_telling class h t = by (is_near margin v w) (is_rise margin v w) class h t
    where
      by : (n r : Bool) (class : ℕ) → class < 3 → T (one_of n (not n && r) (not n && not r) class) → cond n 0 (cond r 1 2) ≡ class
      by true r zero h t = refl
      by true r (suc zero) h t = absurd t
      by true r (suc (suc k)) h t = absurd t
      by false r zero h t = absurd t
      by false true (suc zero) h t = refl
      by false true (suc (suc k)) h t = absurd t
      by false false (suc zero) h t = absurd t
      by false false (suc (suc k)) h t = omega arith

-- ---- the marks of two lists

-- each pair of neighbours has the class of the other list's, or a class that is P
abbrev pub Alike : {A B : Type 0} → (ℕ → Type 0) → (A → A → ℕ) → (B → B → ℕ) → List A → List B → A → B → Type 0
Alike P c d xs ys x y =
    (i : ℕ) → i + 1 < length xs
    → P (c (get_or xs i x) (get_or xs (i + 1) x)) ⊎ (d (get_or ys i y) (get_or ys (i + 1) y) ≡ c (get_or xs i x) (get_or xs (i + 1) x))

-- none among some classes is P
abbrev pub Without : (ℕ → Type 0) → List ℕ → Type 0
Without P classes = (class : ℕ) → among class classes ≡ true → P class → ⊥

module _ {A B : Type 0} (P : ℕ → Type 0) (c : A → A → ℕ) (d : B → B → ℕ) (x : A) (y : B) where
  head_same : (class other : ℕ) (classes : List ℕ) → P class ⊎ (other ≡ class) → Without P (class ∷ classes) → other ≡ class
  unfolding among
  head_same class other classes (inl p) g = absurd (g class (rw (is_true _ (eqb_refl class)) refl) p)
  head_same class other classes (inr e) g = e

  tail_none : (class : ℕ) (classes : List ℕ) → Without P (class ∷ classes) → Without P classes
  unfolding among
  tail_none class classes g k e p = g k (rw (e, or-true (eqb class k)) refl) p

  onward : (v : A) (w : B) (xs : List A) (ys : List B) → Alike P c d (v ∷ xs) (w ∷ ys) x y → Alike P c d xs ys x y
  onward v w xs ys f i h = let e : suc i + 1 ≡ suc (i + 1) = omega arith in rw e at (f (suc i) (omega arith))

  after_alike : (many : Bool) (last : A) (last' : B) (xs : List A) (ys : List B) → length ys ≡ length xs → Alike P c d (last ∷ xs) (last' ∷ ys) x y
      → Without P (looked_after c many last xs) → marks_after c many last xs ≡ marks_after d many last' ys
  unfolding marks_after looked_after among
  after_alike many last last' [] [] e f g = refl
  after_alike many last last' [] (w ∷ ys) e f g = absurd (omega arith)
  after_alike many last last' (v ∷ xs) [] e f g = absurd (omega arith)
  after_alike true last last' (v ∷ []) (w ∷ []) e f g = rw (head_same (c last v) (d last' w) [] (f 0 (omega arith)) g) refl
  after_alike false last last' (v ∷ []) (w ∷ []) e f g = refl
  after_alike many last last' (v ∷ []) (w ∷ w' ∷ ys) e f g = absurd (omega arith)
  after_alike many last last' (v ∷ v' ∷ xs) (w ∷ []) e f g = absurd (omega arith)
  after_alike many last last' (v ∷ v' ∷ xs) (w ∷ w' ∷ ys) e f g =
      let h : Alike P c d (v ∷ v' ∷ xs) (w ∷ w' ∷ ys) x y = onward last last' (v ∷ v' ∷ xs) (w ∷ w' ∷ ys) f in
      rw (head_same (c v v') (d w w') _ (h 0 (omega arith)) g)
      (by (eqb (c v v') 0) (eqb (c v v') 1) refl refl (tail_none (c v v') _ g) (after_alike many v w (v' ∷ xs) (w' ∷ ys) (omega arith) h)
      (after_alike many v' w' xs ys (omega arith) (onward v w (v' ∷ xs) (w' ∷ ys) h)))
    where
      by : (n r : Bool) → eqb (c v v') 0 ≡ n → eqb (c v v') 1 ≡ r → Without P (cond r (looked_after c many v' xs) (looked_after c many v (v' ∷ xs)))
          → (Without P (looked_after c many v (v' ∷ xs)) → marks_after c many v (v' ∷ xs) ≡ marks_after d many w (w' ∷ ys))
          → (Without P (looked_after c many v' xs) → marks_after c many v' xs ≡ marks_after d many w' ys)
          → cond n (0 ∷ marks_after c many v (v' ∷ xs)) (cond r (0 ∷ 1 ∷ marks_after c many v' xs) (1 ∷ marks_after c many v (v' ∷ xs)))
          ≡ cond n (0 ∷ marks_after d many w (w' ∷ ys)) (cond r (0 ∷ 1 ∷ marks_after d many w' ys) (1 ∷ marks_after d many w (w' ∷ ys)))
      by true true p q g a b = absurd (omega (arith, eqb-true (c v v') 0 p, eqb-true (c v v') 1 q))
      by true false p q g a b = ap (λ l. 0 ∷ l) (a g)
      by false true p q g a b = ap (λ l. 0 ∷ 1 ∷ l) (b g)
      by false false p q g a b = ap (λ l. 1 ∷ l) (a g)

  -- their marks are the same, if none at which the first one's grouping looks is P
  pub marks_alike : (xs : List A) (ys : List B) → length ys ≡ length xs → Alike P c d xs ys x y → Without P (looked_at c xs)
      → class_marks c xs ≡ class_marks d ys
  unfolding class_marks looked_at
  marks_alike [] [] e f g = refl
  marks_alike [] (w ∷ ys) e f g = absurd (omega arith)
  marks_alike (v ∷ xs) [] e f g = absurd (omega arith)
  marks_alike (v ∷ xs) (w ∷ ys) e f g =
      let l : length ys ≡ length xs = omega arith in
      ap (λ l. 1 ∷ l) (after_alike (ltb 1 (length xs)) v w xs ys l f g)
      ∙ ap (λ (n : ℕ). 1 ∷ marks_after d (ltb 1 n) w ys) (sym l)

module _ {A B : Type 0} (c : A → A → ℕ) (d : B → B → ℕ) (xs : List A) (ys : List B) (x : A) (y : B) (e : length ys ≡ length xs) where
  -- where each pair has the other's class, or one that is not looked at
  pub marks_agree : (unsure : ℕ) → Alike (λ class. class ≡ unsure) c d xs ys x y → among unsure (looked_at c xs) ≡ false → class_marks c xs ≡ class_marks d ys
  marks_agree unsure f g = marks_alike (λ class. class ≡ unsure) c d x y xs ys e f (λ class h p. true≢false (sym h ∙ ap (λ k. among k (looked_at c xs)) p ∙ g))

  -- and where each has the other's class
  pub marks_same : ((i : ℕ) → i + 1 < length xs → d (get_or ys i y) (get_or ys (i + 1) y) ≡ c (get_or xs i x) (get_or xs (i + 1) x))
      → class_marks c xs ≡ class_marks d ys
  marks_same f = marks_alike (λ class. ⊥) c d x y xs ys e (λ i h. inr (f i h)) (λ class h p. p)

-- ---- a class that no two neighbours have is not looked at

module _ {A : Type 0} (c : A → A → ℕ) (x : A) (class : ℕ) where
  -- no two neighbours have it
  abbrev pub Nowhere : List A → Type 0
  Nowhere xs = (i : ℕ) → i + 1 < length xs → c (get_or xs i x) (get_or xs (i + 1) x) ≡ class → ⊥

  behind_first : (v : A) (xs : List A) → Nowhere (v ∷ xs) → Nowhere xs
  behind_first v xs f i h = let e : suc i + 1 ≡ suc (i + 1) = omega arith in rw e at (f (suc i) (omega arith))

  after_nowhere : (many : Bool) (last : A) (xs : List A) → Nowhere (last ∷ xs) → among class (looked_after c many last xs) ≡ false
  unfolding looked_after among
  after_nowhere many last [] f = refl
  after_nowhere true last (v ∷ []) f = rw (ne_eqb (c last v) class (f 0 (omega arith))) refl
  after_nowhere false last (v ∷ []) f = refl
  after_nowhere many last (v ∷ w ∷ rest) f =
      let g : Nowhere (v ∷ w ∷ rest) = behind_first last (v ∷ w ∷ rest) f in
      rw (ne_eqb (c v w) class (g 0 (omega arith)))
      (by (eqb (c v w) 1) (after_nowhere many w rest (behind_first v (w ∷ rest) g)) (after_nowhere many v (w ∷ rest) g))
    where
      by : (r : Bool) → among class (looked_after c many w rest) ≡ false → among class (looked_after c many v (w ∷ rest)) ≡ false
          → among class (cond r (looked_after c many w rest) (looked_after c many v (w ∷ rest))) ≡ false
      by true a b = a
      by false a b = b

  pub nowhere_looked_at : (xs : List A) → Nowhere xs → among class (looked_at c xs) ≡ false
  unfolding looked_at among
  nowhere_looked_at [] f = refl
  nowhere_looked_at (v ∷ xs) f = after_nowhere (ltb 1 (length xs)) v xs f
