-- The laws of `over`, `put` and `part`, for lists of any type: lengths, what is read back of a list written over, and one more element written.
use mathlib.Core.Path.{◌≡◌, refl, sym, ap, ◌∙◌, subst}
use mathlib.Core.Logic.{◌⊎◌, ⊎_elim}
use mathlib.Core.List.{List, [], ◌∷◌, ◌++◌}
use Prim.Native.Nat.{ℕ, zero, suc, ◌+◌, ◌-◌, ◌≤◌, ◌<◌}
use native.Mathlib.Nat.{le_of_suc-le-suc, not-suc-le-zero, suc-add, zero-add, add-sub_cancel_left}
use native.Mathlib.Numerals.{add-one}
use native.Mathlib.Omega.{arith}
use lib.ListN.{length, take, drop, get_or, set, length-append, length-drop, take-append-drop}
use lib.Seq.{length-take-le, take_at, drop_at, drop-append-add, drop-drop, take-append-le, take-take, take-length, get_or-take, get_or-drop}
use lib.Seq.{set-get_or, ext_get_or}
use Rattle.lent.specs.Over.{over, put, part, Write, written}

module _ {A : Type 0} where
  -- ---- the front

  pub length-over : (new old : List A) → length new ≤ length old → length (over new old) ≡ length old
  unfolding over
  length-over new old h = length-append new (drop (length new) old) ∙ omega (arith, length-drop (length new) old)

  pub over_none : (old : List A) → over [] old ≡ old
  unfolding over
  over_none old = refl

  pub over-first : (x y : A) (new old : List A) → over (x ∷ new) (y ∷ old) ≡ x ∷ over new old
  unfolding over
  over-first x y new old = refl

  pub front : (new old : List A) (n : ℕ) → length new ≡ n → take n (over new old) ≡ new
  unfolding over
  front new old n e = take_at new (drop (length new) old) n e

  pub drop-over : (new old : List A) (n : ℕ) → length new ≤ n → drop n (over new old) ≡ drop n old
  unfolding over
  drop-over new old n h =
      let k : ℕ = n - length new in
      let e : length new + k ≡ n = omega arith in
      subst (λ (m : ℕ). drop m (new ++ drop (length new) old) ≡ drop m old) e (drop-append-add new (drop (length new) old) k ∙ drop-drop k (length new) old)

  get_or-over_past : (new old : List A) (j : ℕ) (d : A) → length new ≤ length old → length new ≤ j → get_or (over new old) j d ≡ get_or old j d
  unfolding over
  get_or-over_past [] old j d r h = refl
  get_or-over_past (x ∷ new) [] j d r h = absurd (not-suc-le-zero r)
  get_or-over_past (x ∷ new) (y ∷ old) zero d r h = absurd (not-suc-le-zero h)
  get_or-over_past (x ∷ new) (y ∷ old) (suc j) d r h = get_or-over_past new old j d (le_of_suc-le-suc r) (le_of_suc-le-suc h)

  store_over : (g w : List A) (i : ℕ) (d : A) → i < length g → i < length w → set (over (take i g) w) i (get_or g i d) ≡ over (take (suc i) g) w
  unfolding over
  store_over [] w i d h r = absurd (not-suc-le-zero h)
  store_over (x ∷ g) [] i d h r = absurd (not-suc-le-zero r)
  store_over (x ∷ g) (y ∷ w) zero d h r = refl
  store_over (x ∷ g) (y ∷ w) (suc i) d h r = rw (store_over g w i d (le_of_suc-le-suc h) (le_of_suc-le-suc r))

  -- ---- a part

  pub length-part : (a n : ℕ) (w : List A) → a + n ≤ length w → length (part a n w) ≡ n
  unfolding part
  length-part a n w h = length-take-le n (drop a w) (omega (arith, length-drop a w))

  pub get_or-part : (a n : ℕ) (w : List A) (i : ℕ) (d : A) → i < n → get_or (part a n w) i d ≡ get_or w (a + i) d
  unfolding part
  get_or-part a n w i d h = get_or-take n (drop a w) i d h ∙ get_or-drop a w i d

  -- parts of two lists that have the same elements there
  pub part-alike : (d : A) (a b n : ℕ) (v w : List A) → a + n ≤ length v → b + n ≤ length w → ((i : ℕ) → i < n → get_or v (a + i) d ≡ get_or w (b + i) d)
      → part a n v ≡ part b n w
  part-alike d a b n v w h k e =
      let l = length-part a n v h in
      ext_get_or d (part a n v) (part b n w) (l ∙ sym (length-part b n w k))
      (λ i g. let j : i < n = omega (arith, l) in get_or-part a n v i d j ∙ e i j ∙ sym (get_or-part b n w i d j))

  -- ---- from place a on

  pub put_front : (new old : List A) → put 0 new old ≡ over new old
  unfolding put
  put_front new old = refl

  pub put_nothing : (a : ℕ) (w : List A) → put a [] w ≡ w
  unfolding put over
  put_nothing a w = take-append-drop a w

  pub length-put : (a : ℕ) (new old : List A) → a + length new ≤ length old → length (put a new old) ≡ length old
  unfolding put
  length-put a new old h =
      omega (
        arith,
        length-append (take a old) (over new (drop a old)),
        length-take-le a old (omega arith),
        length-drop a old,
        length-over new (drop a old) (omega (arith, length-drop a old)),
      )

  pub take-put : (k a : ℕ) (new old : List A) → k ≤ a → a ≤ length old → take k (put a new old) ≡ take k old
  unfolding put
  take-put k a new old h r = take-append-le k (take a old) (over new (drop a old)) (omega (arith, length-take-le a old r)) ∙ take-take k a old h

  pub drop-put : (k a : ℕ) (new old : List A) → a + length new ≤ k → drop k (put a new old) ≡ drop k old
  unfolding put
  drop-put k zero new old h = drop-over new old k (omega arith)
  drop-put k (suc a) new [] h = drop-over new [] k (omega arith)
  drop-put zero (suc a) new (x ∷ old) h = absurd (omega arith)
  drop-put (suc k) (suc a) new (x ∷ old) h = drop-put k a new old (omega arith)

  pub part-put_same : (a n : ℕ) (new old : List A) → length new ≡ n → a + n ≤ length old → part a n (put a new old) ≡ new
  unfolding part put
  part-put_same a n new old e h =
      rw (drop_at (take a old) (over new (drop a old)) a (length-take-le a old (omega arith))) (front new (drop a old) n e)

  pub part-put_before : (b n a : ℕ) (new old : List A) → b + n ≤ a → a ≤ length old → part b n (put a new old) ≡ part b n old
  unfolding part put
  part-put_before zero n a new old h r = take-put n a new old (omega arith) r
  part-put_before (suc b) n zero new old h r = absurd (omega arith)
  part-put_before (suc b) n (suc a) new [] h r = absurd (not-suc-le-zero r)
  part-put_before (suc b) n (suc a) new (x ∷ old) h r = part-put_before b n a new old (omega arith) (le_of_suc-le-suc r)

  pub get_or-put_before : (a : ℕ) (new old : List A) (j : ℕ) (d : A) → a ≤ length old → j < a → get_or (put a new old) j d ≡ get_or old j d
  get_or-put_before a new old j d r h =
      sym (get_or-take a (put a new old) j d h) ∙ ap (λ (l : List A). get_or l j d) (take-put a a new old (omega arith) r) ∙ get_or-take a old j d h

  pub get_or-put_after : (a : ℕ) (new old : List A) (j : ℕ) (d : A) → a + length new ≤ length old → a + length new ≤ j
      → get_or (put a new old) j d ≡ get_or old j d
  unfolding put
  get_or-put_after zero new old j d r h = get_or-over_past new old j d (omega arith) (omega arith)
  get_or-put_after (suc a) new [] j d r h = absurd (omega arith)
  get_or-put_after (suc a) new (x ∷ old) zero d r h = absurd (omega arith)
  get_or-put_after (suc a) new (x ∷ old) (suc j) d r h = get_or-put_after a new old j d (omega arith) (omega arith)

  -- ---- the goal g, i elements of which are written from place a on

  store_suc : (a : ℕ) (g w : List A) (i : ℕ) (d : A) → i < length g → a + length g ≤ length w
      → set (put a (take i g) w) (a + i) (get_or g i d) ≡ put a (take (suc i) g) w
  unfolding put
  store_suc zero g w i d h r = rw (zero-add i) (store_over g w i d h (omega arith))
  store_suc (suc a) g [] i d h r = absurd (omega arith)
  store_suc (suc a) g (x ∷ w) i d h r = rw (suc-add a i, store_suc a g w i d h (omega arith))

  pub store : (a : ℕ) (g w : List A) (i : ℕ) (d : A) → i < length g → a + length g ≤ length w
      → set (put a (take i g) w) (a + i) (get_or g i d) ≡ put a (take (i + 1) g) w
  store a g w i d h r = rw add-one (store_suc a g w i d h r)

  -- what is written is what stood there
  pub put-kept : (a : ℕ) (g w : List A) (i : ℕ) (d : A) → i ≤ length g → a + length g ≤ length w → ((j : ℕ) → j < i → get_or g j d ≡ get_or w (a + j) d)
      → put a (take i g) w ≡ w
  put-kept a g w zero d h r e = put_nothing a w
  put-kept a g w (suc i) d h r e =
      let before : put a (take i g) w ≡ w = put-kept a g w i d (omega arith) r (λ j k. e j (omega arith)) in
      rw (← store_suc a g w i d (omega arith) r, before, e i (omega arith)) (set-get_or w (a + i) d)

  pub put_all : (a : ℕ) (g w : List A) (i : ℕ) → i ≡ length g → put a (take i g) w ≡ put a g w
  put_all a g w i e = rw (e, take-length g)

  -- what is not written yet is as it was
  pub unread : (a : ℕ) (g w : List A) (i j : ℕ) (d : A) → i ≤ length g → a + length g ≤ length w → (j < a) ⊎ (a + i ≤ j)
      → get_or (put a (take i g) w) j d ≡ get_or w j d
  unread a g w i j d h r =
      ⊎_elim (λ b. get_or-put_before a (take i g) w j d (omega arith) b)
      (λ b. let e : length (take i g) ≡ i = length-take-le i g h in get_or-put_after a (take i g) w j d (omega arith) (omega arith))

  -- old lists that agree past what is written
  pub over-agree : (new old old' : List A) (n : ℕ) → length new ≡ n → drop n old ≡ drop n old' → over new old ≡ over new old'
  unfolding over
  over-agree new old old' n l e = rw (l, e)

  -- a part as code lends it, from a to a + n, and from the front
  pub lent-part : (a n : ℕ) (w : List A) → take (a + n - a) (drop a w) ≡ part a n w
  unfolding part
  lent-part a n w = rw (add-sub_cancel_left a n)

  pub lent_front : (n : ℕ) (w : List A) → take n w ≡ part 0 n w
  unfolding part
  lent_front n w = refl

  pub written-append : (xs ys : List (Write A)) (w : List A) → written (xs ++ ys) w ≡ written ys (written xs w)
  written-append [] ys w = refl
  written-append (x ∷ xs) ys w = written-append xs ys (put x.place x.items w)
