-- `over`, `put` and `part` by the pieces of a list, as code takes a slice apart and puts it together again.
use mathlib.Core.Path.{◌≡◌, refl, sym, ap, ◌∙◌}
use mathlib.Core.List.{List, [], ◌∷◌, ◌++◌, append-nil, append_assoc}
use Prim.Native.Nat.{ℕ, ◌+◌, ◌-◌, ◌≤◌, ◌<◌}
use native.Mathlib.Omega.{arith}
use lib.ListN.{length, take, drop, get_or, set, length-append, length-take, drop_of_length-le, take-append-drop, get_or-append}
use lib.Seq.{drop-drop, take-take, set_at, take_at, drop_at, drop-append-le}
use Rattle.std.proofs.lemmas.List.{drop-take}
use Rattle.lent.specs.Over.{over, put, part}
use Rattle.lent.proofs.OverLaws.{drop-over, over-agree}

module _ {A : Type 0} where
  -- what was written, and what stood behind it
  pub over_pieces : (new old : List A) (n : ℕ) → length new ≡ n → new ++ drop n old ≡ over new old
  unfolding over
  over_pieces new old n e = rw e

  -- what was written is read back
  pub get_or-over : (new old : List A) (i : ℕ) (d : A) → i < length new → get_or (over new old) i d ≡ get_or new i d
  unfolding over
  get_or-over new old i d h = get_or-append new (drop (length new) old) d i h

  -- what stood before, what was written, and what stood behind it
  pub put_pieces : (a n : ℕ) (new old : List A) → length new ≡ n → take a old ++ (new ++ drop n (drop a old)) ≡ put a new old
  unfolding put over
  put_pieces a n new old l = rw l

  -- a list as long as what it is written over
  pub over_whole : (new old : List A) → length new ≡ length old → over new old ≡ new
  unfolding over
  over_whole new old e = rw (drop_of_length-le old {i = length new} (omega arith)) (append-nil new)

  -- k places at the front, lent, written over and put back
  pub over-back : (k : ℕ) (new w lent : List A) → length new ≤ k → k ≤ length w → lent ≡ over new (take k w) → lent ++ drop k w ≡ over new w
  unfolding over
  over-back k new w lent l h e =
      let fits : length new ≤ length (take k w) = omega (arith, length-take k w) in
      rw (e, append_assoc, ← drop-append-le (length new) (take k w) (drop k w) fits, take-append-drop)

  -- what is written over is of no account to what is written over all of it
  pub over-absorb : (new newer old : List A) → length new ≤ length newer → over newer (over new old) ≡ over newer old
  over-absorb new newer old h = over-agree newer (over new old) old (length newer) refl (drop-over new old (length newer) h)

  -- written over the second of three pieces
  pub put_piece : (a : ℕ) (front region rest new : List A) → length front ≡ a → length new ≤ length region
      → put a new (front ++ (region ++ rest)) ≡ front ++ (over new region ++ rest)
  unfolding put over
  put_piece a front region rest new e h =
      rw (take_at front (region ++ rest) a e, drop_at front (region ++ rest) a e, drop-append-le (length new) region rest h, append_assoc)

  -- the same, behind two pieces
  pub put_piece₂ : (a : ℕ) (first second region rest new : List A) → length first + length second ≡ a → length new ≤ length region
      → put a new (first ++ (second ++ (region ++ rest))) ≡ first ++ (second ++ (over new region ++ rest))
  put_piece₂ a first second region rest new e h =
      rw (← append_assoc first second (region ++ rest), ← append_assoc first second (over new region ++ rest))
      (put_piece a (first ++ second) region rest new (length-append first second ∙ e) h)

  -- a part and what follows it
  pub part_then : (a n : ℕ) (w : List A) → part a n w ++ drop (a + n) w ≡ drop a w
  unfolding part
  part_then a n w = rw (← drop-drop n a w) (take-append-drop n (drop a w))

  -- k places from place a on, lent, written whole and put back
  pub put-back : (a k : ℕ) (new w region : List A) → length new ≡ k → region ≡ over new (take k (drop a w))
      → take a w ++ (region ++ drop k (drop a w)) ≡ put a new w
  unfolding over
  put-back a k new w region l e =
      let none : drop (length new) (take k (drop a w)) ≡ [] =
      drop_of_length-le (take k (drop a w)) {i = length new} (omega (arith, length-take k (drop a w))) in
      rw (e, none, append-nil new) (put_pieces a k new w l)

  pub part_pieces : (a n : ℕ) (w : List A) → take n (drop a w) ≡ part a n w
  unfolding part
  part_pieces a n w = refl

  -- a part and what follows it
  pub part-rest : (at end : ℕ) (xs : List A) → at ≤ end → part at (end - at) xs ++ drop end xs ≡ drop at xs
  unfolding part
  part-rest at end xs h =
      let e : at + (end - at) ≡ end = omega arith in
      let d : drop end xs ≡ drop (end - at) (drop at xs) = rw (drop-drop (end - at) at xs, e) in
      rw d (take-append-drop (end - at) (drop at xs))

  -- the last place that was written, and the next one
  pub set_last : (xs w : List A) (x y : A) → set (over (xs ++ x ∷ []) w) (length xs) y ≡ over (xs ++ y ∷ []) w
  unfolding over
  set_last xs w x y =
      let as_long : length (xs ++ x ∷ []) ≡ length (xs ++ y ∷ []) = length-append xs (x ∷ []) ∙ sym (length-append xs (y ∷ [])) in
      rw (append_assoc xs (x ∷ []) (drop (length (xs ++ x ∷ [])) w), append_assoc xs (y ∷ []) (drop (length (xs ++ y ∷ [])) w), as_long)
      (set_at xs x (drop (length (xs ++ y ∷ [])) w) y (length xs) refl)

  pub set_next : (xs w : List A) (y : A) → length xs < length w → set (over xs w) (length xs) y ≡ over (xs ++ y ∷ []) w
  unfolding over
  set_next xs [] y h = absurd (omega arith)
  set_next [] (v ∷ w) y h = refl
  set_next (z ∷ xs) (v ∷ w) y h = ap (λ (l : List A). z ∷ l) (set_next xs w y (omega arith))

  -- a part of the front
  pub part-take : (a n k : ℕ) (w : List A) → a + n ≤ k → part a n (take k w) ≡ part a n w
  unfolding part
  part-take a n k w h =
      let e : k ≡ a + (k - a) = omega arith in
      ap (λ m. take n (drop a (take m w))) e ∙ ap (take n) (drop-take a (k - a) w) ∙ take-take n (k - a) (drop a w) (omega arith)
