-- Distinct values, of an ordered list: lengths, and the loop of `distinct_values`. Its invariant: the first k + 1 places have what is kept of the values before
-- i, places past them are as they were, and what is to come follows from the last value kept and the values from i on.
use mathlib.Core.Path.{◌≡◌, refl, sym, ap, ◌∙◌, subst}
use mathlib.Core.Bool.{Bool, true, false, cond}
use mathlib.Core.List.{List, [], ◌∷◌, ◌++◌}
use Prim.Native.Nat.{ℕ, suc, ◌+◌, ◌-◌, ◌≤◌, ◌<◌}
use native.Mathlib.Numerals.{add-one}
use native.Mathlib.Omega.{arith}
use lib.Dec.{T}
use lib.ListN.{length, take, drop, get_or, set, length-set, take-append-drop, drop_of_length-le}
use lib.Seq.{drop-cons, drop-drop, drop-set-lt, take-suc, take-set-le, append_snoc, get_or-drop, get_or-set_same, length-take-le}
use lib.Ieee.{Float, nan}
use lib.Ieee.Fits.{and_l, and_r}
use Rattle.numeric.specs.TotalOrder.{total_order}
use Rattle.numeric.proofs.Values.{Number}
use Rattle.numeric.proofs.order.Laws.{antisym}
use Rattle.lent.specs.Over.{over}
use Rattle.lent.proofs.OverLaws.{length-over, front}
use Rattle.lent.proofs.PieceLaws.{over_pieces}
use Rattle.numeric_sort.specs.Ordered.{ordered}
use Rattle.numeric_sort.proofs.InsertLaws.{Numbers}
use Rattle.numeric_sort.proofs.OrderedLaws.{number_at, ordered-few, length-ordered, numbers-ordered}
use Rattle.grouping_normalizer.specs.Normalizer.{alike, unrepeated, distinct, sets, middle_of, normal_of, distinct_in_front, NormalOf}
use Rattle.grouping_normalizer.specs.passes.Distinct.{Distinct}

-- ---- lengths

length-unrepeated : (xs : List Float) → length (unrepeated xs) ≤ length xs
unfolding unrepeated
length-unrepeated [] = omega arith
length-unrepeated (x ∷ []) = omega arith
length-unrepeated (x ∷ y ∷ ys) = by (alike x y) (length-unrepeated (y ∷ ys))
  where
    by : (t : Bool) → length (unrepeated (y ∷ ys)) ≤ suc (length ys) → length (cond t (unrepeated (y ∷ ys)) (x ∷ unrepeated (y ∷ ys))) ≤ suc (suc (length ys))
    by true h = omega arith
    by false h = omega arith

pub length-distinct : (xs : List Float) → length (distinct xs) ≤ length xs
unfolding distinct
length-distinct xs = omega (arith, length-unrepeated (ordered xs), length-ordered xs)

pub length_left : (xs : List Float) → length (distinct_in_front xs) ≡ length xs
unfolding distinct_in_front
length_left xs = length-over (distinct xs) (ordered xs) (omega (arith, length-distinct xs, length-ordered xs)) ∙ length-ordered xs

-- ---- cases

pub alike_same : {x y : Float} → Number x → Number y → alike x y ≡ true → x ≡ y
unfolding alike
alike_same {x} {y} p q e =
    let t : T (alike x y) = subst T (sym e) tt in
    antisym p q (and_l (total_order x y) (total_order y x) t) (and_r (total_order x y) (total_order y x) t)

module _ (x y : Float) (ys : List Float) where
  unrepeated-alike : alike x y ≡ true → unrepeated (x ∷ y ∷ ys) ≡ unrepeated (y ∷ ys)
  unfolding unrepeated
  unrepeated-alike e = rw e

  unrepeated_other : alike x y ≡ false → unrepeated (x ∷ y ∷ ys) ≡ x ∷ unrepeated (y ∷ ys)
  unfolding unrepeated
  unrepeated_other e = rw e

-- ---- the loop

pub record Thinning (s w : List Float) (n k i : ℕ) : Type 0 where
  pub size : length s ≡ n
  pub long : length w ≡ n
  pub numbers : Numbers s
  pub number : Number (get_or w k nan)
  pub behind : k < i
  pub upto : i ≤ n
  pub rest : drop (k + 1) w ≡ drop (k + 1) s
  pub same : unrepeated s ≡ take k w ++ unrepeated (get_or w k nan ∷ drop i s)

pub thinning_start : {s old : List Float} → 0 < length s → Numbers old → s ≡ ordered old → Thinning s s (length s) 0 1
thinning_start {s} h m q =
    let o : Numbers s = subst Numbers (sym q) (numbers-ordered m) in
    record {
      size = refl;
      long = refl;
      numbers = o;
      number = number_at 0 o h;
      behind = omega arith;
      upto = h;
      rest = refl;
      same = ap unrepeated (drop-cons s 0 nan h);
    }

module _ {s w : List Float} {n k i : ℕ} (x : Thinning s w n k i) where
  -- what is not written yet is as it was
  unread : get_or w i nan ≡ get_or s i nan
  unread =
      let m : ℕ = i - (k + 1) in
      let e : k + 1 + m ≡ i = omega (arith, x.behind) in
      cc (get_or-drop (k + 1) w m nan, get_or-drop (k + 1) s m nan)

  module _ (h : i < n) where
    next : drop i s ≡ get_or w i nan ∷ drop (i + 1) s
    next = rw (add-one, unread, drop-cons s i nan (omega (arith, x.size)))

    number_next : Number (get_or w i nan)
    number_next = subst Number (sym unread) (number_at i x.numbers (omega (arith, x.size)))

    -- a repeated value
    pub thinning_skip : alike (get_or w k nan) (get_or w i nan) ≡ true → Thinning s w n k (i + 1)
    thinning_skip e =
        let a : Float = get_or w k nan in
        let b : Float = get_or w i nan in
        let q : b ≡ a = sym (alike_same x.number number_next e) in
        record {
          size = x.size;
          long = x.long;
          numbers = x.numbers;
          number = x.number;
          behind = omega (arith, x.behind);
          upto = omega arith;
          rest = x.rest;
          same = x.same ∙ rw (next, unrepeated-alike a b (drop (i + 1) s) e, q);
        }

    -- a new one
    pub thinning_keep : alike (get_or w k nan) (get_or w i nan) ≡ false → Thinning s (set w (k + 1) (get_or w i nan)) n (k + 1) (i + 1)
    thinning_keep e =
        let a : Float = get_or w k nan in
        let b : Float = get_or w i nan in
        let l : k + 1 < length w = omega (arith, x.long, x.behind) in
        let g : get_or (set w (k + 1) b) (k + 1) nan ≡ b = get_or-set_same w (k + 1) b nan l in
        let f : take (k + 1) (set w (k + 1) b) ≡ take k w ++ (a ∷ []) =
        take-set-le (k + 1) w (k + 1) b (omega arith) ∙ rw add-one (take-suc w k nan (omega arith)) in
        record {
          size = x.size;
          long = length-set w (k + 1) b ∙ x.long;
          numbers = x.numbers;
          number = subst Number (sym g) number_next;
          behind = omega (arith, x.behind);
          upto = omega arith;
          rest =
              drop-set-lt (k + 1 + 1) w (k + 1) b (omega arith)
              ∙ sym (drop-drop 1 (k + 1) w)
              ∙ ap (drop 1) x.rest
              ∙ drop-drop 1 (k + 1) s;
          same = x.same ∙ rw (next, unrepeated_other a b (drop (i + 1) s) e, f, g, append_snoc);
        }

  pub thinning_end : n ≤ i → {old : List Float} → s ≡ ordered old → Distinct old w (k + 1)
  unfolding distinct distinct_in_front unrepeated
  thinning_end h e =
      let r : k + 1 ≤ length w = omega (arith, x.long, x.behind, x.upto) in
      let u : unrepeated s ≡ take (k + 1) w =
      x.same ∙ rw (drop_of_length-le s {i = i} (omega (arith, x.size)), add-one, take-suc w k nan (omega arith)) in
      let l : length (unrepeated s) ≡ k + 1 = ap length u ∙ length-take-le (k + 1) w r in
      record {
        values = sym (take-append-drop (k + 1) w) ∙ rw (← u, x.rest, over_pieces (unrepeated s) s (k + 1) l, e);
        count = rw (← e, l);
      }

-- at most one value is in order, and no other is alike
pub few_left : (xs : List Float) → length xs < 2 → xs ≡ distinct_in_front xs
unfolding distinct distinct_in_front unrepeated
few_left xs h = few xs h ∙ rw (ordered-few xs h)
  where
    few : (xs : List Float) → length xs < 2 → xs ≡ over (unrepeated xs) xs
    few [] h = over_pieces [] [] 0 refl
    few (x ∷ []) h = over_pieces (x ∷ []) (x ∷ []) 1 refl
    few (x ∷ y ∷ xs) h = absurd (omega arith)

-- no values at all
pub distinct_none : (s old : List Float) → length s ≡ 0 → s ≡ ordered old → Distinct old s 0
unfolding distinct distinct_in_front unrepeated
distinct_none [] old h e = record { values = rw (← e) (over_pieces [] [] 0 refl); count = rw (← e) }
distinct_none (x ∷ s) old h e = absurd (omega arith)

-- ---- what is left in a lent slice

module _ {old new : List Float} {k : ℕ} (d : Distinct old new k) where
  pub distinct_long : length new ≡ length old
  distinct_long = ap length d.values ∙ length_left old

  pub distinct-few : k ≤ length new
  distinct-few = omega (arith, d.count, length-distinct old, distinct_long)

  pub distinct_front : take k new ≡ distinct old
  unfolding distinct_in_front
  distinct_front = rw d.values (front (distinct old) (ordered old) k (sym d.count))

  -- the middle among the distinct values is what x counts as
  pub normal : (margin x r : Float) → r ≡ middle_of x (sets margin (take k new)) → NormalOf margin old new x r
  unfolding normal_of
  normal margin x r e = record { answer = e ∙ rw distinct_front; values = d.values }

-- what the search of `normal_of` is given
pub ruleset fronts = (distinct-few, length-take-le)
