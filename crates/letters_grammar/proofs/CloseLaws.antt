-- How a text that is read so far can go on: from every state some bytes lead to a good end under larger limits, and closing brackets alone do so exactly
-- where nothing else must follow, with the objects that there are.
use mathlib.Core.Path.{◌≡◌, refl, sym, ◌∙◌}
use mathlib.Core.Logic.{inl, ⊎_elim}
use mathlib.Core.Bool.{Bool, true, false}
use mathlib.Core.List.{List, [], ◌∷◌, ◌++◌}
use Prim.Native.Nat.{ℕ, zero, suc, ◌+◌, ◌-◌, ◌*◌, ◌≤◌}
use native.Mathlib.Omega.{arith}
use lib.ListN.{length, take, drop, get_or, replicate}
use lib.Seq.{drop_at, length-take-le}
use Rattle.lent.proofs.NeverLaws.{never}
use Rattle.letters_grammar.specs.Letters.{is_digit}
use Rattle.letters_grammar.specs.Grammar.{Drill, Viable}
use Rattle.letters_grammar.specs.Reading.{Bracket, Mode, need, free, after, tens, moves, refuses, good}
use Rattle.letters_grammar.specs.Reading.{digit_first, repeated, at_closing, ended, at_end, step, run, shorthand}
use Rattle.letters_grammar.specs.Faults.{open_brackets, closed_text}
use Rattle.letters_grammar.proofs.ReadingLaws.{digit_behind}
use Rattle.letters_grammar.proofs.LetterLaws.{Lettered}
use Rattle.letters_grammar.proofs.ReadingLaws.{with_letter, objects-few, item_letter, item_other, free_close, after_none, tens_digit, tens_none}
use Rattle.letters_grammar.proofs.ReadingLaws.{count-few, run-on, run_stops}
use Rattle.letters_grammar.proofs.MoveLaws.{is_tens, is_ready, ready_tens}
use Rattle.letters_grammar.proofs.ReachedLaws.{Reached, reached_run, reached_within, reached_open}
use Rattle.letters_grammar.proofs.AlikeLaws.{reached_shown, front_alike, front_within}
use Rattle.letters_grammar.proofs.Sound.{no_good, sound}

-- ---- closing brackets

pub closers_first : (n : ℕ) → digit_first (replicate n 41) ≡ false
unfolding digit_first is_digit
closers_first zero = refl
closers_first (suc n) = refl

pub letter_41 : Lettered 41 → ⊥
letter_41 e = ⊎_elim (λ d. omega arith) (⊎_elim (λ d. omega arith) (λ d. omega arith)) e

module _ (M D : ℕ) where
  closing : (more : Bool) (f : Bracket) (gs : List Bracket) (m : Mode) (ks : List ℕ) → is_ready m ≡ true
      → step M D more 41 (f ∷ gs) m ks ≡ moves gs (after f.start) ks
  unfolding step at_closing is_ready is_digit
  closing more f gs (need q) ks r = never (cc)
  closing more f gs free ks r = free_close M D 41 (f ∷ gs) ks refl
  closing more f gs (after i) ks r = after_none M D more 41 i (f ∷ gs) ks refl ∙ free_close M D 41 (f ∷ gs) ks refl
  closing more f gs (tens i t) ks r = never (cc)

  -- one for each open bracket
  pub closes : (fs : List Bracket) (p : ℕ) (m : Mode) (ks : List ℕ) → is_ready m ≡ true → run M D (replicate (length fs) 41) p fs m ks ≡ good ks
  unfolding run at_end ended is_ready
  closes [] p (need q) ks r = never (cc)
  closes [] p free ks r = refl
  closes [] p (after i) ks r = refl
  closes [] p (tens i t) ks r = never (cc)
  closes (f ∷ gs) p m ks r =
      run-on M D 41 (replicate (length gs) 41) p (f ∷ gs) m ks (closing (digit_first (replicate (length gs) 41)) f gs m ks r)
      ∙ closes gs (p + 1) (after f.start) ks refl

  -- nothing else is closed by them
  pub record Closed (m : Mode) (ks out : List ℕ) : Type 0 where
    pub ready : is_ready m ≡ true
    pub same : ks ≡ out

  refused_close : (more : Bool) (m : Mode) (ks : List ℕ) → step M D more 41 [] m ks ≡ refuses 12
  unfolding step at_closing is_digit
  refused_close more (need q) ks = item_other M D 41 [] q ks (λ e. omega arith) (λ e. omega arith) (λ e. letter_41 e)
  refused_close more free ks = free_close M D 41 [] ks refl
  refused_close more (after i) ks = after_none M D more 41 i [] ks refl ∙ free_close M D 41 [] ks refl
  refused_close more (tens i t) ks = tens_none M D 41 i t [] ks refl

  unready_close : (more : Bool) (fs : List Bracket) (m : Mode) (ks : List ℕ) → is_ready m ≡ false → step M D more 41 fs m ks ≡ refuses 12
  unfolding step is_ready is_digit
  unready_close more fs (need q) ks e = item_other M D 41 fs q ks (λ e. omega arith) (λ e. omega arith) (λ e. letter_41 e)
  unready_close more fs free ks e = never (cc)
  unready_close more fs (after i) ks e = never (cc)
  unready_close more fs (tens i t) ks e = tens_none M D 41 i t fs ks refl

  ended_good : (p : ℕ) (fs : List Bracket) (m : Mode) (ks out : List ℕ) → at_end p fs m ks ≡ good out → Closed m ks out
  unfolding at_end ended is_ready
  ended_good p fs (need q) ks out e = no_good e
  ended_good p [] free ks out e = record { ready = refl; same = cc }
  ended_good p (f ∷ fs) free ks out e = no_good e
  ended_good p [] (after i) ks out e = record { ready = refl; same = cc }
  ended_good p (f ∷ fs) (after i) ks out e = no_good e
  ended_good p fs (tens i t) ks out e = no_good e

  pub closed_good : (n p : ℕ) (fs : List Bracket) (m : Mode) (ks out : List ℕ) → run M D (replicate n 41) p fs m ks ≡ good out → Closed m ks out
  unfolding run
  closed_good zero p fs m ks out e = ended_good p fs m ks out e
  closed_good (suc n) p fs m ks out e = go fs (is_ready m) refl e (λ gs i x. closed_good n (p + 1) gs (after i) ks out x)
    where
      rest : List ℕ
      rest = replicate n 41

      go : (fs : List Bracket) (r : Bool) → is_ready m ≡ r → run M D (41 ∷ rest) p fs m ks ≡ good out
          → ((gs : List Bracket) (i : ℕ) → run M D rest (p + 1) gs (after i) ks ≡ good out → Closed (after i) ks out) → Closed m ks out
      go fs false r x ih = no_good (sym (run_stops M D 41 rest p fs m ks (unready_close (digit_first rest) fs m ks r)) ∙ x)
      go [] true r x ih = no_good (sym (run_stops M D 41 rest p [] m ks (refused_close (digit_first rest) m ks)) ∙ x)
      go (f ∷ gs) true r x ih =
          record { ready = r; same = (ih gs f.start (sym (run-on M D 41 rest p (f ∷ gs) m ks (closing (digit_first rest) f gs m ks r)) ∙ x)).same }

  -- ---- any state goes on to a good end

  record Finish (p : ℕ) (fs : List Bracket) (m : Mode) (ks : List ℕ) : Type 0 where
    pub rest : List ℕ
    pub objects : ℕ
    pub wider : M ≤ objects
    pub out : List ℕ
    pub on : run objects D rest p fs m ks ≡ good out
    pub first : digit_first rest ≡ is_tens m

-- by closing brackets alone where nothing else must follow
finish_closed : (M D p : ℕ) (fs : List Bracket) (m : Mode) (ks : List ℕ) → is_ready m ≡ true → Finish M D p fs m ks
finish_closed M D p fs m ks r = record {
  rest = replicate (length fs) 41;
  objects = M;
  wider = omega arith;
  out = ks;
  on = closes M D fs p m ks r;
  first = closers_first (length fs) ∙ sym (ready_tens m r);
}

finish : (M D p : ℕ) (fs : List Bracket) (m : Mode) (ks : List ℕ) → Finish M D p fs m ks
unfolding step is_tens is_ready digit_first is_digit
finish M D p fs (need q) ks =
    let ls : List ℕ = with_letter q 100 ks in
    let N : ℕ = M + length ls in
    record {
      rest = 100 ∷ replicate (length fs) 41;
      objects = N;
      wider = omega arith;
      out = ls;
      on =
          run-on N D 100 (replicate (length fs) 41) p fs (need q) ks
          (item_letter N D 100 fs q ks (inl refl) ∙ objects-few N D fs (after (length ks)) ls (omega arith))
          ∙ closes N D fs (p + 1) (after (length ks)) ls refl;
      first = refl;
    }
finish M D p fs free ks = finish_closed M D p fs free ks refl
finish M D p fs (after i) ks = finish_closed M D p fs (after i) ks refl
finish M D p fs (tens i t) ks =
    let n : ℕ = 10 * t + (48 - 48) in
    let N : ℕ = M + length (repeated n i ks) in
    record {
      rest = 48 ∷ replicate (length fs) 41;
      objects = N;
      wider = omega arith;
      out = repeated n i ks;
      on =
          run-on N D 48 (replicate (length fs) 41) p fs (tens i t) ks (tens_digit N D 48 i t fs ks refl ∙ count-few N D n i fs ks (omega arith))
          ∙ closes N D fs (p + 1) free (repeated n i ks) refl;
      first = refl;
    }

-- ---- what begins a text of the grammar

module _ (M D : ℕ) (t : List ℕ) {p : ℕ} {fs : List Bracket} {m : Mode} {ks : List ℕ} (r : Reached M D t p fs m ks) where
  -- the state is reached too where other bytes follow
  module _ (rest : List ℕ) (first : digit_first rest ≡ is_tens m) where
    abbrev other : List ℕ
    other = take p t ++ rest

    behind : drop p other ≡ rest
    behind = drop_at (take p t) rest p (length-take-le p t (reached_within M D t r))

    other_first : is_digit (get_or other p 0) ≡ is_tens m
    other_first = sym (digit_behind other p) ∙ rw behind first

    pub other_run : (M' D' : ℕ) → M ≤ M' → D ≤ D' → shorthand M' D' other ≡ run M' D' rest p fs m ks
    other_run M' D' hM hD =
        let h : p ≤ length t = reached_within M D t r in
        let s : Reached M' D' other p fs m ks =
        reached_shown M D t M' D' hM hD other r (front_alike t p rest h) (front_within t p rest h) other_first in
        reached_run M' D' other s ∙ rw behind

  -- the bytes before a place that is reached begin a text of the grammar
  pub reached_viable : Viable (take p t)
  reached_viable =
      let f = finish M D p fs m ks in
      record {
        rest = f.rest;
        kinds = f.out;
        drill = (sound f.objects D (take p t ++ f.rest) f.out (other_run f.rest f.first f.objects D f.wider (omega arith) ∙ f.on)).drill;
      }

  -- with the open brackets closed they are one, if nothing else must follow
  pub reached_closed : is_ready m ≡ true → Drill (closed_text (take p t)) ks
  unfolding closed_text
  reached_closed e =
      let n : open_brackets (take p t) ≡ length fs = reached_open M D t r in
      let c : List ℕ = replicate (length fs) 41 in
      rw n
      (sound M D (take p t ++ c) ks
      (other_run c (closers_first (length fs) ∙ sym (ready_tens m e)) M D (omega arith) (omega arith) ∙ closes M D fs p m ks e)).drill
