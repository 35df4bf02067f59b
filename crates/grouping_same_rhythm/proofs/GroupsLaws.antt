-- The groups' first objects and intervals: how many there are, and each by its place.
use mathlib.Core.Path.{◌≡◌, refl, ap, ◌∙◌}
use mathlib.Core.Bool.{false}
use mathlib.Core.List.{List, [], ◌∷◌}
use Prim.Native.Nat.{ℕ, zero, suc, ◌-◌, ◌<◌}
use native.Mathlib.Nat.{le_of_suc-le-suc, not-suc-le-zero}
use native.Mathlib.Omega.{arith}
use lib.ListN.{length, get_or, length-map}
use lib.Ieee.{Float, nan, inf}
use Rattle.grouping_marks.specs.Parted.{parted}
use Rattle.std.proofs.lemmas.List.{get_or-map}
use Rattle.grouping_marks.proofs.PartedLaws.{parted_all, parted-some}
use Rattle.grouping_same_rhythm.specs.SameRhythm.{firsts_of, starts_of, between, intervals_after, intervals_of}

-- ---- the intervals

pub length-starts : (starts : List Float) (objects : List ℕ) → length (starts_of starts objects) ≡ length objects
unfolding starts_of
length-starts starts objects = length-map objects (λ (i : ℕ). get_or starts i nan)

start_at_lem : (starts : List Float) (objects : List ℕ) (k : ℕ) → k < length objects
    → get_or (starts_of starts objects) k nan ≡ get_or starts (get_or objects k 0) nan
unfolding starts_of
start_at_lem starts objects k h = get_or-map (λ (i : ℕ). get_or starts i nan) objects k 0 nan h

length_after : (margin previous : Float) (starts : List Float) → length (intervals_after margin previous starts) ≡ length starts
unfolding intervals_after
length_after margin previous [] = refl
length_after margin previous (start ∷ starts) = ap suc (length_after margin start starts)

pub length-intervals : (margin : Float) (starts : List Float) → length (intervals_of margin starts) ≡ length starts
unfolding intervals_of
length-intervals margin [] = refl
length-intervals margin (start ∷ starts) = ap suc (length_after margin start starts)

after_at : (margin previous : Float) (starts : List Float) (k : ℕ) → k < length starts
    → get_or (intervals_after margin previous starts) k nan ≡ between margin (get_or (previous ∷ starts) k nan) (get_or starts k nan)
unfolding intervals_after
after_at margin previous [] k h = absurd (not-suc-le-zero h)
after_at margin previous (start ∷ starts) zero h = refl
after_at margin previous (start ∷ starts) (suc k) h = after_at margin start starts k (le_of_suc-le-suc h)

interval_none : (margin : Float) (starts : List Float) → 0 < length starts → get_or (intervals_of margin starts) 0 nan ≡ inf false
unfolding intervals_of
interval_none margin [] h = absurd (not-suc-le-zero h)
interval_none margin (start ∷ starts) h = refl

interval_after : (margin : Float) (starts : List Float) (k : ℕ) → suc k < length starts
    → get_or (intervals_of margin starts) (suc k) nan ≡ between margin (get_or starts k nan) (get_or starts (suc k) nan)
unfolding intervals_of
interval_after margin [] k h = absurd (not-suc-le-zero h)
interval_after margin (start ∷ starts) k h = after_at margin start starts k (le_of_suc-le-suc h)

module _ (margin : Float) (starts : List Float) (objects : List ℕ) where
  -- the first group's
  pub interval_first : 0 < length objects → get_or (intervals_of margin (starts_of starts objects)) 0 nan ≡ inf false
  interval_first h = interval_none margin (starts_of starts objects) (omega (arith, length-starts starts objects))

  -- and a later one's, by the starts of the first objects there and before
  pub interval-later : (k : ℕ) → k < length objects → (k ≡ 0 → ⊥)
      → get_or (intervals_of margin (starts_of starts objects)) k nan
      ≡ between margin (get_or starts (get_or objects (k - 1) 0) nan) (get_or starts (get_or objects k 0) nan)
  interval-later zero h e = absurd (e refl)
  interval-later (suc k) h e =
      let b : suc k - 1 ≡ k = omega arith in
      rw b
      (interval_after margin (starts_of starts objects) k (omega (arith, length-starts starts objects))
      ∙ rw (start_at_lem starts objects k (omega arith), start_at_lem starts objects (suc k) h))

-- ---- the first objects

pub length-firsts : (groups : List (List ℕ)) → length (firsts_of groups) ≡ length groups
unfolding firsts_of
length-firsts groups = length-map groups (λ (group : List ℕ). get_or group 0 0)

-- where all items are below b, so are the groups' first ones
pub firsts-inside : (b : ℕ) (marks xs : List ℕ) → ((i : ℕ) → i < length xs → get_or xs i 0 < b)
    → (k : ℕ) → k < length (firsts_of (parted marks xs)) → get_or (firsts_of (parted marks xs)) k 0 < b
unfolding firsts_of
firsts-inside b marks xs h k i =
    let l : k < length (parted marks xs) = omega (arith, length-firsts (parted marks xs)) in
    rw (get_or-map (λ (group : List ℕ). get_or group 0 0) (parted marks xs) k [] 0 l)
    (parted_all (λ (x : ℕ). x < b) marks xs 0 h k 0 l (parted-some marks xs k l))
