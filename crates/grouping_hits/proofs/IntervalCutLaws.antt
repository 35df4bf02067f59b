-- Intervals: the search from a hit pattern looks at no more than M − 1 hit patterns before it, M being the search limit,
-- so behind a cut the intervals from the M-th hit pattern on are those of the back alone.
use mathlib.Core.Path.{◌≡◌, refl, sym, ◌∙◌}
use mathlib.Core.List.{List, ◌++◌}
use mathlib.Core.Bool.{cond}
use Prim.Native.Nat.{ℕ, zero, suc, ◌+◌, ◌-◌, ◌≤◌, ◌<◌}
use native.Mathlib.Omega.{arith}
use lib.ListN.{length, get_or, length-append}
use borrow.Author.Tests.{le-leb}
use Rattle.lent.proofs.FillLaws.{get_or-tabulate}
use Rattle.grouping_marks.proofs.AlikeLaws.{alike-back}
use Rattle.grouping_hits.specs.RepeatingHitPatterns.{matches, nearest_match, interval_at, intervals}

-- what is known of the hit patterns before the cut, and of those behind it
module _ (ss ss' fs fs' ts ts' : List ℕ) (e : length fs ≡ length ss) (f : length ts ≡ length ss) where
  -- two hit patterns behind the cut
  matches-back : (i j : ℕ) → matches (ss ++ ss') (fs ++ fs') (ts ++ ts') (length ss + i) (length ss + j) ≡ matches ss' fs' ts' i j
  unfolding matches
  matches-back i j = alike-back ss ss' fs fs' ts ts' e f i j

  -- the search, as long as it does not reach the cut
  nearest_back : (none j more k : ℕ) → more + k ≤ j + 1
      → nearest_match (ss ++ ss') (fs ++ fs') (ts ++ ts') none (length ss + j) more k ≡ nearest_match ss' fs' ts' none j more k
  unfolding nearest_match
  nearest_back none j zero k h = refl
  nearest_back none j (suc more) k h =
      rw (le-leb k (length ss + j) (omega arith), le-leb k j (omega arith))
      (λ i. cond (same i) k (nearest_back none j more (suc k) (omega arith) i))
    where
      same : matches (ss ++ ss') (fs ++ fs') (ts ++ ts') (length ss + j - k) (length ss + j) ≡ matches ss' fs' ts' (j - k) j
      same = let z : length ss + j - k ≡ length ss + (j - k) = omega arith in rw z (matches-back (j - k) j)

  -- from the M-th hit pattern behind the cut on
  interval_at-back : (limit j : ℕ) → limit ≤ j + 1 → interval_at limit (ss ++ ss') (fs ++ fs') (ts ++ ts') (length ss + j) ≡ interval_at limit ss' fs' ts' j
  unfolding interval_at
  interval_at-back limit j h = nearest_back (limit + 1) j (limit - 1) 1 (omega arith)

  pub intervals-back : (limit j : ℕ) → limit ≤ j + 1 → j < length ss'
      → get_or (intervals limit (ss ++ ss') (fs ++ fs') (ts ++ ts')) (length ss + j) 0 ≡ get_or (intervals limit ss' fs' ts') j 0
  unfolding intervals
  intervals-back limit j h l =
      get_or-tabulate (interval_at limit (ss ++ ss') (fs ++ fs') (ts ++ ts')) (length (ss ++ ss')) (length ss + j) 0 (omega (arith, length-append ss ss'))
      ∙ interval_at-back limit j h
      ∙ sym (get_or-tabulate (interval_at limit ss' fs' ts') (length ss') j 0 l)
