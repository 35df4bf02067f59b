-- An interval is from 1 to the search limit less 1, or one above the limit, so the limit itself never occurs, and it fits a byte.
use mathlib.Core.Path.{◌≡◌, refl}
use mathlib.Core.Logic.{◌⊎◌, inl, inr, ⊎_elim}
use mathlib.Core.Bool.{Bool, true, false, cond}
use mathlib.Core.List.{List}
use Prim.Native.Nat.{ℕ, zero, suc, ◌+◌, ◌-◌, ◌≤◌, ◌<◌}
use native.Mathlib.Omega.{arith}
use borrow.Author.Tests.{ltb-true, ltb-false}
use lib.Dec.{leb, ltb}
use lib.ListN.{length, get_or, get_or-eq_default}
use Rattle.lent.proofs.FillLaws.{get_or-tabulate}
use Rattle.grouping_hits.specs.RepeatingHitPatterns.{matches, nearest_match, interval_at, intervals}
use Rattle.grouping_hits.proofs.LengthLaws.{length-intervals}

-- one that was searched below this limit
abbrev pub InReach : ℕ → ℕ → Type 0
InReach limit x = ((1 ≤ x) × (x < limit)) ⊎ (x ≡ limit + 1)

module _ (limit : ℕ) (s f t : List ℕ) where
  nearest_range : (h more k : ℕ) → 1 ≤ k → more + k ≤ limit → InReach limit (nearest_match s f t (limit + 1) h more k)
  unfolding nearest_match
  nearest_range h zero k a l = inr refl
  nearest_range h (suc more) k a l = by (leb k h) (matches s f t (h - k) h) (nearest_range h more (suc k) (omega arith) (omega arith))
    where
      by : (a b : Bool) → InReach limit (nearest_match s f t (limit + 1) h more (suc k))
          → InReach limit (cond a (cond b k (nearest_match s f t (limit + 1) h more (suc k))) (limit + 1))
      by true true u = inl (a, omega arith)
      by true false u = u
      by false b u = inr refl

interval_at_range : (limit : ℕ) (s f t : List ℕ) (h : ℕ) → InReach limit (interval_at limit s f t h)
unfolding interval_at nearest_match
interval_at_range zero s f t h = inr refl
interval_at_range (suc l) s f t h = nearest_range (suc l) s f t h (suc l - 1) 1 (omega arith) (omega arith)

pub interval_range : (limit : ℕ) (s f t : List ℕ) (j : ℕ) → j < length s → InReach limit (get_or (intervals limit s f t) j 0)
unfolding intervals
interval_range limit s f t j h = rw (get_or-tabulate (interval_at limit s f t) (length s) j 0 h) (interval_at_range limit s f t j)

pub interval_byte : (limit : ℕ) (s f t : List ℕ) → limit ≤ 254 → (j : ℕ) → get_or (intervals limit s f t) j 0 < 256
interval_byte limit s f t l j = by (ltb j (length s)) refl
  where
    by : (b : Bool) → ltb j (length s) ≡ b → get_or (intervals limit s f t) j 0 < 256
    by true e = ⊎_elim (λ u. omega (arith, u)) (λ u. omega arith) (interval_range limit s f t j (ltb-true _ _ e))
    by false e =
        let o : length (intervals limit s f t) ≤ j = omega (arith, length-intervals limit s f t, ltb-false j (length s) e) in
        rw (get_or-eq_default (intervals limit s f t) 0 o) (omega arith)
