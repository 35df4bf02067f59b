-- A state that is reached in t is reached in every u with the same bytes before it, and under larger limits: byte by byte the reading does the same.
-- Only the byte before the state looks ahead, and what it saw there shows in the state: whether a second digit must follow.
use mathlib.Core.Path.{◌≡◌, sym, ◌∙◌}
use mathlib.Core.List.{List, ◌++◌}
use Prim.Native.Nat.{ℕ, ◌+◌, ◌≤◌, ◌<◌}
use native.Mathlib.Omega.{arith}
use lib.ListN.{length, take, get_or, length-append, get_or-append}
use lib.Seq.{get_or-take, length-take-le}
use Rattle.letters_grammar.specs.Letters.{is_digit}
use Rattle.letters_grammar.specs.Reading.{Bracket, Mode, moves}
use Rattle.letters_grammar.proofs.MoveLaws.{is_tens}
use Rattle.letters_grammar.proofs.ReachedLaws.{Reached, start, next, step_at, moved}

module _ (M D : ℕ) (t : List ℕ) (M' D' : ℕ) (hM : M ≤ M') (hD : D ≤ D') (u : List ℕ) where
  -- the first n bytes are alike
  abbrev Alike : ℕ → Type 0
  Alike n = (q : ℕ) → q < n → get_or u q 0 ≡ get_or t q 0

  -- the byte at the place is alike too
  pub reached_alike : {p : ℕ} {fs : List Bracket} {m : Mode} {ks : List ℕ} → Reached M D t p fs m ks → Alike (p + 1) → p ≤ length u
      → Reached M' D' u p fs m ks
  reached_alike (start a b c d) s h = start a b c d
  reached_alike {p} {fs} {m} {ks} (next q es l js a g r e) s h =
      let x : step_at M' D' u q es l js ≡ moves fs m ks =
      rw (s (q + 1) (omega arith), s q (omega arith)) ((moved M D t q es l js e).larger M' D' hM hD) in
      next q es l js a (omega arith) (reached_alike r (λ i z. s i (omega arith)) (omega arith)) x

  -- or it is another, and a digit where a second digit must follow
  pub reached_shown : {p : ℕ} {fs : List Bracket} {m : Mode} {ks : List ℕ} → Reached M D t p fs m ks → Alike p → p ≤ length u
      → is_digit (get_or u p 0) ≡ is_tens m → Reached M' D' u p fs m ks
  reached_shown (start a b c d) s h k = start a b c d
  reached_shown {p} {fs} {m} {ks} (next q es l js a g r e) s h k =
      let x : step_at M' D' u q es l js ≡ moves fs m ks = rw (sym a, k, s q (omega arith)) ((moved M D t q es l js e).shown M' D' hM hD) in
      next q es l js a (omega arith) (reached_alike r (λ i z. s i (omega arith)) (omega arith)) x

-- the first bytes of t and others behind them
module _ (t : List ℕ) (p : ℕ) (rest : List ℕ) (h : p ≤ length t) where
  pub front_alike : (q : ℕ) → q < p → get_or (take p t ++ rest) q 0 ≡ get_or t q 0
  front_alike q l = get_or-append (take p t) rest 0 q (omega (arith, length-take-le p t h)) ∙ get_or-take p t q 0 l

  pub front_within : p ≤ length (take p t ++ rest)
  front_within = omega (arith, length-append (take p t) rest, length-take-le p t h)
