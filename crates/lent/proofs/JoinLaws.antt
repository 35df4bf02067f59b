-- A slice that is cut into regions of n places each, and what follows them: a list that is written from a region's first place on is
-- written over that region, and is read back there.
use mathlib.Core.Path.{◌≡◌, refl, ap, ◌∙◌}
use mathlib.Core.List.{List, [], ◌∷◌, ◌++◌, append_assoc}
use Prim.Native.Nat.{ℕ, zero, suc, ◌+◌, ◌*◌, ◌≤◌, ◌<◌}
use native.Mathlib.Nat.{zero-add, suc-add, not-suc-le-zero, le_of_suc-le-suc}
use native.Mathlib.Omega.{arith}
use lib.ListN.{length, take, drop, get_or, set, length-append}
use lib.Seq.{drop-append-add, drop-append-le, take-append-le}
use Rattle.lent.specs.Over.{over, put, part}
use Rattle.lent.proofs.OverLaws.{length-over}

-- the regions, one after the other, and the rest
abbrev pub join : {A : Type 0} → List (List A) → List A → List A
join [] rest = rest
join (x ∷ xs) rest = x ++ join xs rest

-- each of them has n places
abbrev pub Each : {A : Type 0} → ℕ → List (List A) → Type 0
Each n [] = Unit {0}
Each n (x ∷ xs) = (length x ≡ n) × Each n xs

module _ {A : Type 0} where
  put-behind : (y w x : List A) (a : ℕ) → put (length y + a) x (y ++ w) ≡ y ++ put a x w
  unfolding put
  put-behind [] w x a = rw (zero-add a)
  put-behind (z ∷ y) w x a = rw (suc-add (length y) a) (ap (λ (l : List A). z ∷ l) (put-behind y w x a))

  put-front : (y w x : List A) → length x ≤ length y → put 0 x (y ++ w) ≡ over x y ++ w
  unfolding put over
  put-front y w x h = rw (drop-append-le (length x) y w h, append_assoc)

  part-behind : (y w : List A) (a k : ℕ) → part (length y + a) k (y ++ w) ≡ part a k w
  unfolding part
  part-behind y w a k = rw (drop-append-add y w a)

  part-front : (y w : List A) (k : ℕ) → k ≤ length y → part 0 k (y ++ w) ≡ take k y
  unfolding part
  part-front y w k h = take-append-le k y w h

  -- ---- region r

  pub put_region : (n : ℕ) (xs : List (List A)) (rest x : List A) (r a : ℕ) → a ≡ r * n → Each n xs → r < length xs → length x ≤ n
      → put a x (join xs rest) ≡ join (set xs r (over x (get_or xs r []))) rest
  put_region n [] rest x r a q e h l = absurd (not-suc-le-zero h)
  put_region n (y ∷ xs) rest x zero a q e h l =
      let at : a ≡ 0 = omega arith in rw at (put-front y (join xs rest) x (omega (arith, e.0)))
  put_region n (y ∷ xs) rest x (suc r) a q e h l =
      let at : a ≡ length y + r * n = omega (arith, e.0) in
      rw (at, put-behind y (join xs rest) x (r * n)) (ap (λ (w : List A). y ++ w) (put_region n xs rest x r (r * n) refl e.1 (le_of_suc-le-suc h) l))

  pub each_put : (n : ℕ) (xs : List (List A)) (x : List A) (r : ℕ) → Each n xs → length x ≤ n → Each n (set xs r (over x (get_or xs r [])))
  each_put n [] x r e l = e
  each_put n (y ∷ xs) x zero e l = (length-over x y (omega (arith, e.0)) ∙ e.0, e.1)
  each_put n (y ∷ xs) x (suc r) e l = (e.0, each_put n xs x r e.1 l)

  pub part_region : (n : ℕ) (xs : List (List A)) (rest : List A) (r a k : ℕ) → a ≡ r * n → Each n xs → r < length xs → k ≤ n
      → part a k (join xs rest) ≡ take k (get_or xs r [])
  part_region n [] rest r a k q e h l = absurd (not-suc-le-zero h)
  part_region n (y ∷ xs) rest zero a k q e h l = let at : a ≡ 0 = omega arith in rw at (part-front y (join xs rest) k (omega (arith, e.0)))
  part_region n (y ∷ xs) rest (suc r) a k q e h l =
      let at : a ≡ length y + r * n = omega (arith, e.0) in
      rw (at, part-behind y (join xs rest) (r * n) k) (part_region n xs rest r (r * n) k refl e.1 (le_of_suc-le-suc h) l)

  pub length-join : (n : ℕ) (xs : List (List A)) (rest : List A) → Each n xs → length (join xs rest) ≡ length xs * n + length rest
  length-join n [] rest e = omega arith
  length-join n (y ∷ xs) rest e = length-append y (join xs rest) ∙ omega (arith, e.0, length-join n xs rest e.1)

  pub drop-join : (n : ℕ) (xs : List (List A)) (rest : List A) → Each n xs → drop (length xs * n) (join xs rest) ≡ rest
  drop-join n [] rest e = let z : 0 * n ≡ 0 = omega arith in rw z refl
  drop-join n (y ∷ xs) rest e =
      let at : suc (length xs) * n ≡ length y + length xs * n = omega (arith, e.0) in
      rw (at, drop-append-add y (join xs rest) (length xs * n)) (drop-join n xs rest e.1)
