-- Repetition intervals, found by a pass for each k from the largest down: after the pass that looks k back each hit pattern has the
-- smallest match from k on.
use mathlib.Core.Path.{◌≡◌, refl, sym, ap, ◌∙◌}
use mathlib.Core.Logic.{inr}
use mathlib.Core.Bool.{Bool, true, false, cond, ◌&&◌}
use mathlib.Core.List.{List}
use Prim.Native.Nat.{ℕ, zero, suc, ◌+◌, ◌-◌, ◌≤◌, ◌<◌}
use native.Mathlib.Numerals.{add-one}
use native.Mathlib.Omega.{arith}
use borrow.Author.Tests.{le-leb, lt-leb, leb-true, leb-false}
use lib.Dec.{leb}
use lib.ListN.{length, drop, get_or, set, replicate, length-replicate, get_or-replicate}
use lib.Seq.{ext_get_or}
use Rattle.lent.specs.Over.{over}
use Rattle.lent.specs.Scan.{tabulate}
use Rattle.lent.proofs.OverLaws.{drop-over, over-agree}
use Rattle.lent.proofs.PieceLaws.{get_or-over}
use Rattle.lent.proofs.FillLaws.{Fill, fill_from, fill_turn_front, fill_end_front, fill_unread, length-tabulate, get_or-tabulate, tabulate-agree}
use Rattle.grouping_marks.specs.Alike.{alike_at}
use Rattle.grouping_hits.specs.RepeatingHitPatterns.{matches, nearest_match, interval_at, intervals}
use Rattle.grouping_hits.specs.passes.Stages.{match_taken_at, matches_taken}

-- ---- the pass that looks k back

taken_past : (k : ℕ) (s f t had : List ℕ) (h : ℕ) → h < k → match_taken_at k s f t had h ≡ get_or had h 0
unfolding match_taken_at
taken_past k s f t had h l = rw (lt-leb k h l)

taken_there : (k : ℕ) (s f t had : List ℕ) (h : ℕ) → k ≤ h → match_taken_at k s f t had h ≡ cond (matches s f t (h - k) h) k (get_or had h 0)
unfolding match_taken_at
taken_there k s f t had h l = rw (le-leb k h l)

module _ (k : ℕ) (s f t had : List ℕ) where
  -- the hit patterns below h are looked at, and those past the k-th that match it have k
  pub record Taken (now : List ℕ) (h : ℕ) : Type 0 where
    i : ℕ
    pub fill : Fill (matches_taken k s f t had) (length s) 0 had now i
    here : h ≤ length s → i ≡ h
    past : length s ≤ h → i ≡ length s
    pub behind : k ≤ h

  -- the hit patterns before the k-th keep what they have
  untaken : (i : ℕ) → i ≤ length s → i ≤ k → length s ≤ length had → Fill (matches_taken k s f t had) (length s) 0 had had i
  unfolding matches_taken
  untaken i u l r =
      fill_from _ _ 0 had i 0 (length-tabulate (match_taken_at k s f t had) (length s)) (omega arith) u
      (λ j h. get_or-tabulate (match_taken_at k s f t had) (length s) j 0 (omega arith) ∙ taken_past k s f t had j (omega arith)
      ∙ ap (λ (n : ℕ). get_or had n 0) (let z : j ≡ 0 + j = omega arith in z))

  pub taken_start : length s ≤ length had → Taken had k
  taken_start r = by (leb k (length s)) refl
    where
      by : (b : Bool) → leb k (length s) ≡ b → Taken had k
      by true e =
          let l : k ≤ length s = omega (arith, leb-true k (length s) e) in
          record { i = k; fill = untaken k l (omega arith) r; here = λ _. refl; past = λ h. omega arith; behind = omega arith }
      by false e =
          let l : length s < k = omega (arith, leb-false k (length s) e) in
          record { i = length s; fill = untaken (length s) (omega arith) (omega arith) r; here = λ h. omega arith; past = λ _. refl; behind = omega arith }

  module _ {now : List ℕ} {h : ℕ} (x : Taken now h) where
    pub taken_turn : {v : ℕ} {found : Bool} → h < length s → found ≡ alike_at s f t (h - k) h → v ≡ cond found k (get_or now h 0) → Taken (set now h v) (h + 1)
    unfolding matches_taken matches
    taken_turn {v} {found} l e q =
        let at : x.i ≡ h = x.here (omega arith) in
        let y : Fill (matches_taken k s f t had) (length s) 0 had now h = rw at at x.fill in
        let same : get_or now h 0 ≡ get_or had h 0 = fill_unread h 0 y (inr (omega arith)) in
        record {
          i = h + 1;
          fill = fill_turn_front 0 y l (q ∙ (λ j. cond (e j) k (same j)) ∙ sym (taken_there k s f t had h x.behind)
              ∙ sym (get_or-tabulate (match_taken_at k s f t had) (length s) h 0 l));
          here = λ _. refl;
          past = λ r. omega arith;
          behind = omega (arith, x.behind);
        }

    pub taken_end : length s ≤ h → now ≡ over (matches_taken k s f t had) had
    taken_end l = fill_end_front x.fill (omega (arith, x.past l))

-- ---- all passes, down to k

module _ (limit : ℕ) (s f t : List ℕ) where
  -- the smallest match from k on, or one above the limit
  abbrev from : ℕ → ℕ → ℕ
  from k h = nearest_match s f t (limit + 1) h (limit - k) k

  none_past : (more k h : ℕ) → h < k → nearest_match s f t (limit + 1) h more k ≡ limit + 1
  unfolding nearest_match
  none_past zero k h l = refl
  none_past (suc more) k h l = rw (lt-leb k h l)

  none_at_limit : (h : ℕ) → from limit h ≡ limit + 1
  unfolding nearest_match
  none_at_limit h = let e : limit - limit ≡ 0 = omega arith in rw e

  -- one more k looked at
  one_nearer : (k h : ℕ) → k < limit → cond (leb k h && matches s f t (h - k) h) k (from (k + 1) h) ≡ from k h
  unfolding nearest_match
  one_nearer k h l = rw (more_is) (by (leb k h) refl)
    where
      more_is : limit - k ≡ suc (limit - (k + 1))
      more_is = omega arith

      by : (b : Bool) → leb k h ≡ b
          → cond (b && matches s f t (h - k) h) k (nearest_match s f t (limit + 1) h (limit - (k + 1)) (k + 1))
          ≡ cond b (cond (matches s f t (h - k) h) k (nearest_match s f t (limit + 1) h (limit - (k + 1)) (suc k))) (limit + 1)
      by true e = rw (add-one k)
      by false e = none_past (limit - (k + 1)) (k + 1) h (omega (arith, leb-false k h e))

-- what m hit patterns have once the passes down to k are done
abbrev nearest : ℕ → List ℕ → List ℕ → List ℕ → ℕ → ℕ → List ℕ
nearest limit s f t m k = tabulate (from limit s f t k) m

nearest_long : (limit : ℕ) (s f t : List ℕ) (m k : ℕ) → length (nearest limit s f t m k) ≡ m
nearest_long limit s f t m k = length-tabulate (from limit s f t k) m

none_yet : (limit : ℕ) (s f t : List ℕ) (m : ℕ) → replicate m (limit + 1) ≡ nearest limit s f t m limit
none_yet limit s f t m =
    ext_get_or 0 _ _ (length-replicate m (limit + 1) ∙ sym (nearest_long limit s f t m limit))
    (λ i h.
    let r : i < m = omega (arith, length-replicate m (limit + 1)) in
    get_or-replicate m i (limit + 1) 0 r ∙ sym (none_at_limit limit s f t i) ∙ sym (get_or-tabulate (from limit s f t limit) m i 0 r))

-- the pass that looks k back, where those from k + 1 on are done
all_nearer : (limit : ℕ) (s f t had : List ℕ) (k : ℕ) → k < limit
    → ((h : ℕ) → h < length s → get_or had h 0 ≡ get_or (nearest limit s f t (length s) (k + 1)) h 0)
    → matches_taken k s f t had ≡ nearest limit s f t (length s) k
unfolding matches_taken match_taken_at
all_nearer limit s f t had k l e =
    tabulate-agree _ _ (length s)
    (λ h r.
    ap (λ (x : ℕ). cond (leb k h && matches s f t (h - k) h) k x) (e h r ∙ get_or-tabulate (from limit s f t (k + 1)) (length s) h 0 r)
    ∙ one_nearer limit s f t k h l)

module _ (limit : ℕ) (s f t w₀ : List ℕ) where
  -- the passes down to k are done in what was w₀
  pub record Searched (w : List ℕ) (k : ℕ) : Type 0 where
    pub low : 1 ≤ k
    pub upto : k ≤ limit
    pub room : length s ≤ length w₀
    pub stored : w ≡ over (nearest limit s f t (length s) k) w₀

  -- no hit pattern has a match yet
  pub search_start : {w : List ℕ} → 1 ≤ limit → length s ≤ length w₀ → w ≡ over (replicate (length s) (limit + 1)) w₀ → Searched w limit
  search_start {w} l r e = record {
    low = l;
    upto = omega arith;
    room = r;
    stored = e ∙ ap (λ (x : List ℕ). over x w₀) (none_yet limit s f t (length s));
  }

  module _ {w : List ℕ} {k : ℕ} (x : Searched w k) where
    long-nearest : length (nearest limit s f t (length s) k) ≡ length s
    long-nearest = nearest_long limit s f t (length s) k

    pub search_turn : {w' : List ℕ} {j : ℕ} → j + 1 ≡ k → 1 ≤ j → w' ≡ over (matches_taken j s f t w) w → Searched w' j
    search_turn {w'} {j} n h e =
        let had : (i : ℕ) → i < length s → get_or w i 0 ≡ get_or (nearest limit s f t (length s) (j + 1)) i 0 =
        λ i r. rw (n, x.stored) (get_or-over _ w₀ i 0 (omega (arith, long-nearest))) in
        let past : drop (length s) w ≡ drop (length s) w₀ = rw x.stored (drop-over _ w₀ (length s) (omega (arith, long-nearest))) in
        record {
          low = h;
          upto = omega (arith, x.upto);
          room = x.room;
          stored =
              e
              ∙ ap (λ (l : List ℕ). over l w) (all_nearer limit s f t w j (omega (arith, x.upto)) had)
              ∙ over-agree _ w w₀ (length s) (nearest_long limit s f t (length s) j) past;
        }

    pub search_end : k ≤ 1 → w ≡ over (intervals limit s f t) w₀
    unfolding intervals interval_at
    search_end h =
        let one : k ≡ 1 = omega (arith, x.low) in
        x.stored ∙ ap (λ (n : ℕ). over (nearest limit s f t (length s) n) w₀) one
