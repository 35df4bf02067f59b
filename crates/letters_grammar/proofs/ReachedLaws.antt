-- The states that the reading of a text goes through, one for each place that it reaches: how it ends is told by the last of them. A state that one
-- text reaches is also reached in every text with the same bytes before it, and under larger limits.
use mathlib.Core.Path.{◌≡◌, refl, sym, ap, subst, ◌∙◌}
use mathlib.Core.Bool.{Bool, true, false, cond}
use mathlib.Core.List.{List, [], ◌∷◌, ◌++◌}
use Prim.Native.Nat.{ℕ, zero, suc, ◌+◌, ◌-◌, ◌≤◌, ◌<◌}
use native.Mathlib.Numerals.{add-one}
use native.Mathlib.Omega.{arith}
use borrow.Author.Tests.{ltb-true, ltb-false}
use lib.Dec.{eqb, ltb}
use lib.ListN.{length, take, drop, get_or}
use lib.Seq.{take-suc}
use Rattle.lent.proofs.NeverLaws.{never}
use Rattle.letters_grammar.specs.Letters.{is_digit}
use Rattle.letters_grammar.specs.Reading.{Bracket, Mode, need, free, after, tens, Move, moves, refuses, Finding, good, refused}
use Rattle.letters_grammar.specs.Reading.{ended, at_end, step, run, shorthand}
use Rattle.letters_grammar.specs.Faults.{occurrences, open_brackets}
use Rattle.letters_grammar.proofs.ReadingLaws.{run-end, place-on, place_stops, digit_behind}
use Rattle.letters_grammar.proofs.MoveLaws.{is_tens, Tells, Moved, Refusing, Facts, facts}

occurrences-append : (b : ℕ) (xs ys : List ℕ) → occurrences b (xs ++ ys) ≡ occurrences b xs + occurrences b ys
unfolding occurrences
occurrences-append b [] ys = omega arith
occurrences-append b (x ∷ xs) ys = go (eqb x b) (occurrences-append b xs ys)
  where
    go : (z : Bool) → occurrences b (xs ++ ys) ≡ occurrences b xs + occurrences b ys
        → cond z (suc (occurrences b (xs ++ ys))) (occurrences b (xs ++ ys)) ≡ cond z (suc (occurrences b xs)) (occurrences b xs) + occurrences b ys
    go true e = omega arith
    go false e = e

-- what the byte at p does
abbrev pub step_at : ℕ → ℕ → List ℕ → ℕ → List Bracket → Mode → List ℕ → Move
step_at M D t p fs m ks = step M D (is_digit (get_or t (p + 1) 0)) (get_or t p 0) fs m ks

-- the reading of t gets to place p, and what the bytes before it leave
pub data Reached (M D : ℕ) (t : List ℕ) : ℕ → List Bracket → Mode → List ℕ → Type 0 where
  start : {p : ℕ} {fs : List Bracket} {m : Mode} {ks : List ℕ} → p ≡ 0 → fs ≡ [] → m ≡ free → ks ≡ [] → Reached M D t p fs m ks
  next : {p : ℕ} {fs : List Bracket} {m : Mode} {ks : List ℕ} (q : ℕ) (es : List Bracket) (l : Mode) (js : List ℕ) → p ≡ q + 1 → q < length t
      → Reached M D t q es l js → step_at M D t q es l js ≡ moves fs m ks → Reached M D t p fs m ks

module _ (M D : ℕ) (t : List ℕ) where
  -- ---- how the reading ends

  -- the rest goes on from a state that is reached
  pub reached_run : {p : ℕ} {fs : List Bracket} {m : Mode} {ks : List ℕ} → Reached M D t p fs m ks → shorthand M D t ≡ run M D (drop p t) p fs m ks
  unfolding shorthand
  reached_run (start a b c d) = rw (a, b, c, d)
  reached_run {p} {fs} {m} {ks} (next q es l js a h r e) =
      reached_run r ∙ place-on M D t q es l js h {gs = fs} {k = m} {ls = ks} (rw (digit_behind t (q + 1)) e) ∙ rw a

  -- at the end of the text, good or short of it; or at a byte that is refused
  pub data Ending : Finding → Type 0 where
    whole : (fs : List Bracket) (m : Mode) (ks : List ℕ) → Reached M D t (length t) fs m ks → Ending (good ks)
    short : (fs : List Bracket) (m : Mode) (ks : List ℕ) → Reached M D t (length t) fs m ks → at_end (length t) fs m ks ≡ refused 12 (length t)
        → Ending (refused 12 (length t))
    stops : (n p : ℕ) (fs : List Bracket) (m : Mode) (ks : List ℕ) → p < length t → Reached M D t p fs m ks → step_at M D t p fs m ks ≡ refuses n
        → Ending (refused n p)

  -- so many bytes are passed, or one of them is refused
  data Walk (k : ℕ) : Type 0 where
    through : (fs : List Bracket) (m : Mode) (ks : List ℕ) → Reached M D t k fs m ks → Walk k
    stopped : (n p : ℕ) (fs : List Bracket) (m : Mode) (ks : List ℕ) → p < length t → Reached M D t p fs m ks → step_at M D t p fs m ks ≡ refuses n → Walk k

  walk : (k : ℕ) → k ≤ length t → Walk k
  walk zero h = through [] free [] (start refl refl refl refl)
  walk (suc k) h = extend (walk k (omega arith))
    where
      by_move : (fs : List Bracket) (m : Mode) (ks : List ℕ) → Reached M D t k fs m ks → (v : Move) → step_at M D t k fs m ks ≡ v → Walk (suc k)
      by_move fs m ks r (moves gs j ls) e = through gs j ls (next {p = suc k} k fs m ks (omega arith) (omega arith) r e)
      by_move fs m ks r (refuses n) e = stopped n k fs m ks (omega arith) r e

      extend : Walk k → Walk (suc k)
      extend (through fs m ks r) = by_move fs m ks r (step_at M D t k fs m ks) refl
      extend (stopped n p fs m ks l r e) = stopped n p fs m ks l r e

  at_end_lem : (fs : List Bracket) (m : Mode) (ks : List ℕ) → Reached M D t (length t) fs m ks → Ending (at_end (length t) fs m ks)
  unfolding at_end ended
  at_end_lem fs (need q) ks r = short fs (need q) ks r refl
  at_end_lem [] free ks r = whole [] free ks r
  at_end_lem (f ∷ fs) free ks r = short (f ∷ fs) free ks r refl
  at_end_lem [] (after i) ks r = whole [] (after i) ks r
  at_end_lem (f ∷ fs) (after i) ks r = short (f ∷ fs) (after i) ks r refl
  at_end_lem fs (tens i d) ks r = short fs (tens i d) ks r refl

  pub ending : Ending (shorthand M D t)
  ending = go (walk (length t) (omega arith))
    where
      go : Walk (length t) → Ending (shorthand M D t)
      go (through fs m ks r) = subst Ending (sym (reached_run r ∙ run-end M D t (length t) fs m ks (omega arith))) (at_end_lem fs m ks r)
      go (stopped n p fs m ks l r e) =
          subst Ending (sym (reached_run r ∙ place_stops M D t p fs m ks l (rw (digit_behind t (p + 1)) e))) (stops n p fs m ks l r e)

  -- ---- what is known of a state

  module _ (p : ℕ) (fs : List Bracket) (m : Mode) (ks : List ℕ) where
    pub moved : {gs : List Bracket} {k : Mode} {ls : List ℕ} → step_at M D t p fs m ks ≡ moves gs k ls
        → Moved M D (is_digit (get_or t (p + 1) 0)) (get_or t p 0) fs m ks gs k ls
    unfolding Facts
    moved e = rw e at (facts M D (is_digit (get_or t (p + 1) 0)) (get_or t p 0) fs m ks)

    pub refusing : {n : ℕ} → step_at M D t p fs m ks ≡ refuses n → Refusing M D (is_digit (get_or t (p + 1) 0)) (get_or t p 0) fs m ks n
    unfolding Facts
    refusing e = rw e at (facts M D (is_digit (get_or t (p + 1) 0)) (get_or t p 0) fs m ks)

  module _ {p : ℕ} {fs : List Bracket} {m : Mode} {ks : List ℕ} where
    pub reached_within : Reached M D t p fs m ks → p ≤ length t
    reached_within (start a b c d) = omega arith
    reached_within (next q es l js a h r e) = omega arith

  -- at most so many objects and open brackets
  pub reached_few : {p : ℕ} {fs : List Bracket} {m : Mode} {ks : List ℕ} → Reached M D t p fs m ks → length ks ≤ M
  reached_few (start a b c d) = rw d (omega arith)
  reached_few (next q es l js a h r e) = (moved q es l js e).few (reached_few r)

  pub reached_flat : {p : ℕ} {fs : List Bracket} {m : Mode} {ks : List ℕ} → Reached M D t p fs m ks → length fs ≤ D
  reached_flat (start a b c d) = rw b (omega arith)
  reached_flat (next q es l js a h r e) = (moved q es l js e).flat (reached_flat r)

  -- the open brackets are those that the text leaves open
  reached_brackets : {p : ℕ} {fs : List Bracket} {m : Mode} {ks : List ℕ} → Reached M D t p fs m ks
      → occurrences 40 (take p t) ≡ occurrences 41 (take p t) + length fs
  unfolding occurrences
  reached_brackets (start a b c d) = rw (a, b)
  reached_brackets (next q es l js a h r e) =
      let ih : occurrences 40 (take q t) ≡ occurrences 41 (take q t) + length es = reached_brackets r in
      let b : ℕ = get_or t q 0 in
      let x = (moved q es l js e).brackets in
      rw (a, add-one q, take-suc t q 0 h, occurrences-append 40 (take q t) (b ∷ []), occurrences-append 41 (take q t) (b ∷ [])) (omega arith)

  pub reached_open : {p : ℕ} {fs : List Bracket} {m : Mode} {ks : List ℕ} → Reached M D t p fs m ks → open_brackets (take p t) ≡ length fs
  unfolding open_brackets
  reached_open r = omega (arith, reached_brackets r)

  -- what the mode tells of the byte before
  pub reached_after : {p : ℕ} {fs : List Bracket} {m : Mode} {ks : List ℕ} (i : ℕ) → Reached M D t p fs m ks → m ≡ after i
      → is_digit (get_or t (p - 1) 0) ≡ false
  unfolding Tells
  reached_after i (start a b c d) e = never (cc)
  reached_after {p} i (next q es l js a h r x) e =
      let y : p - 1 ≡ q = omega arith in
      rw y (rw e at (moved q es l js x).tells)

  pub reached_tens : {p : ℕ} {fs : List Bracket} {m : Mode} {ks : List ℕ} → Reached M D t p fs m ks → is_tens m ≡ true → is_digit (get_or t (p - 1) 0) ≡ true
  unfolding Tells is_tens
  reached_tens (start a b c d) e = never (cc (ap is_tens c))
  reached_tens {p} {fs} {m} (next q es l js a h r x) e =
      let y : p - 1 ≡ q = omega arith in
      rw y (go m e (moved q es l js x).tells)
    where
      go : (m : Mode) → is_tens m ≡ true → Tells (get_or t q 0) l m → is_digit (get_or t q 0) ≡ true
      go (need z) e w = never (cc)
      go free e w = never (cc)
      go (after i) e w = never (cc)
      go (tens i d) e w = w.0

  -- each byte before a place that is reached was passed
  pub record Passed (q : ℕ) : Type 0 where
    pub brackets : List Bracket
    pub mode : Mode
    pub kinds : List ℕ
    pub here : Reached M D t q brackets mode kinds
    pub within : q < length t
    pub brackets' : List Bracket
    pub mode' : Mode
    pub kinds' : List ℕ
    pub on : step_at M D t q brackets mode kinds ≡ moves brackets' mode' kinds'

  pub passed : {p : ℕ} {fs : List Bracket} {m : Mode} {ks : List ℕ} → Reached M D t p fs m ks → (q : ℕ) → q < p → Passed q
  passed (start a b c d) q h = absurd (omega arith)
  passed {p} {fs} {m} {ks} (next o es l js a g r e) q h = go (λ z. passed r q z) (ltb q o) refl
    where
      go : (q < o → Passed q) → (z : Bool) → ltb q o ≡ z → Passed q
      go ih true z = ih (ltb-true q o z)
      go ih false z =
          let x : Passed o = record { brackets = es; mode = l; kinds = js; here = r; within = g; brackets' = fs; mode' = m; kinds' = ks; on = e } in
          let y : o ≡ q = omega (arith, ltb-false q o z) in
          rw y at x
