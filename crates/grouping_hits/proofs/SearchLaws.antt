-- Demand 2 on intervals: the interval is the nearest match below the limit, and one above the limit exactly where there
-- is none. By induction on the tries that are left the search gives the first match, with none nearer, or `none`, with no match in reach.
use mathlib.Core.Path.{◌≡◌, refl, sym, subst, ◌∙◌}
use mathlib.Core.Logic.{◌⊎◌, inl, inr, ⊎_elim, ◌↔◌}
use mathlib.Core.Bool.{Bool, true, false, cond, true≢false}
use mathlib.Core.List.{List}
use Prim.Native.Nat.{ℕ, zero, suc, ◌+◌, ◌-◌, ◌≤◌, ◌<◌}
use native.Mathlib.Omega.{arith}
use native.Mathlib.Nat.{eq-or-lt_of_le}
use borrow.Author.Tests.{leb-true, leb-false}
use lib.Dec.{leb}
use Rattle.grouping_hits.specs.RepeatingHitPatterns.{matches, nearest_match, interval_at}

nothing_between : (k j : ℕ) → k ≤ j → j < k + 0 → ⊥
nothing_between k j p q = omega arith

nothing_below : (k j : ℕ) → k ≤ j → j < k → ⊥
nothing_below k j p q = omega arith

past : (h k j : ℕ) → h < k → k ≤ j → j ≤ h → ⊥
past h k j a b c = omega arith

none_below_zero : {k : ℕ} → k < 0 → ⊥
none_below_zero l = omega arith

upto : (m : ℕ) → 1 + (suc m - 1) ≡ suc m
upto m = omega arith

too_large : (m r : ℕ) → r ≡ suc m + 1 → r < suc m → ⊥
too_large m r e l = omega arith

reached : (m r : ℕ) → r < 1 + (suc m - 1) → r ≡ suc m + 1 → ⊥
reached m r l e = omega arith

module _ (sizes firsts seconds : List ℕ) (h : ℕ) where
  -- the k-th hit pattern before h, which exists, matches it
  pub record MatchesAt (k : ℕ) : Type 0 where
    pub there : k ≤ h
    pub alike : matches sizes firsts seconds (h - k) h ≡ true

  -- r is the first from k on, of those below `end`
  pub record FirstMatch (k end r : ℕ) : Type 0 where
    pub from : k ≤ r
    pub below : r < end
    pub match : MatchesAt r
    pub nearest : (j : ℕ) → k ≤ j → j < r → MatchesAt j → ⊥

  -- no one from k on and below `end` matches
  pub record NoMatch (k end : ℕ) : Type 0 where
    pub none : (j : ℕ) → k ≤ j → j < end → MatchesAt j → ⊥

  abbrev Result : ℕ → ℕ → ℕ → ℕ → Type 0
  Result none k end r = FirstMatch k end r ⊎ ((r ≡ none) × NoMatch k end)

  not_here : {k : ℕ} → matches sizes firsts seconds (h - k) h ≡ false → MatchesAt k → ⊥
  not_here e m = true≢false (sym m.alike ∙ e)

  -- what does not match at k and does not match past it
  one_more_lem : {k j : ℕ} → matches sizes firsts seconds (h - k) h ≡ false → (k < j → MatchesAt j → ⊥) → k ≤ j → MatchesAt j → ⊥
  one_more_lem e past p m = ⊎_elim (λ i. not_here e (subst MatchesAt (sym i) m)) (λ i. past i m) (eq-or-lt_of_le p)

  search : (none more k : ℕ) → Result none k (k + more) (nearest_match sizes firsts seconds none h more k)
  unfolding nearest_match
  search none zero k = inr (refl, record { none = λ j p q m. absurd (nothing_between k j p q) })
  search none (suc more) k = by_place (search none more (suc k)) (leb k h) refl
    where
      nearer : ℕ
      nearer = nearest_match sizes firsts seconds none h more (suc k)

      later : (b : Bool) → matches sizes firsts seconds (h - k) h ≡ b → k ≤ h → Result none (suc k) (suc k + more) nearer
          → Result none k (k + suc more) (cond b k nearer)
      later true e l r =
          inl (record { from = omega arith; below = omega arith; match = record { there = l; alike = e }; nearest = λ j p q m. absurd (nothing_below k j p q) })
      later false e l (inl f) =
          inl (record {
            from = omega (arith, f.from);
            below = omega (arith, f.below);
            match = f.match;
            nearest = λ j p q. one_more_lem e (λ i. f.nearest j i q) p;
          })
      later false e l (inr f) = inr (f.0, record { none = λ j p q. one_more_lem e (λ i. f.1.none j i (omega (arith, q))) p })

      by_place : Result none (suc k) (suc k + more) nearer → (b : Bool) → leb k h ≡ b
          → Result none k (k + suc more) (cond b (cond (matches sizes firsts seconds (h - k) h) k nearer) none)
      by_place r true e = later (matches sizes firsts seconds (h - k) h) refl (leb-true k h e) r
      by_place r false e = inr (refl, record { none = λ j p q m. past h k j (leb-false k h e) p m.there })

  -- below the limit the interval is the smallest k from 1 on that matches
  pub interval-smallest : (limit : ℕ) → interval_at limit sizes firsts seconds h < limit → FirstMatch 1 limit (interval_at limit sizes firsts seconds h)
  unfolding interval_at
  interval-smallest zero l = absurd (none_below_zero l)
  interval-smallest (suc m) l = elim (search (suc m + 1) (suc m - 1) 1) [
    | inl f ↦ rw (upto m) at f
    | inr f ↦ absurd (too_large m _ f.0 l)
  ]

  -- it is one above the limit exactly when none from 1 to the limit less one matches
  pub interval_none : (limit : ℕ) → 1 ≤ limit → (interval_at limit sizes firsts seconds h ≡ limit + 1) ↔ NoMatch 1 limit
  unfolding interval_at
  interval_none zero l = absurd (none_below_zero l)
  interval_none (suc m) l = elim (search (suc m + 1) (suc m - 1) 1) [
    | inl f ↦ ((λ e. absurd (reached m _ f.below e)), (λ n. absurd (n.none _ f.from (rw (upto m) at f.below) f.match)))
    | inr f ↦ ((λ e. rw (upto m) at f.1), (λ n. f.0))
  ]
