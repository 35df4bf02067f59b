-- What is known of a byte by what it did, moved on or was refused: each cause in turn, and for each what larger limits, another byte behind it, the
-- number of objects and the open brackets make of it.
use mathlib.Core.Path.{◌≡◌, refl, sym, ap, subst, ◌∙◌}
use mathlib.Core.Logic.{◌⊎◌, inl, inr, ⊎_elim}
use mathlib.Core.Bool.{Bool, true, false}
use mathlib.Core.List.{List, [], ◌∷◌}
use Prim.Native.Nat.{ℕ, suc, ◌+◌, ◌≤◌, ◌<◌}
use native.Mathlib.Omega.{arith}
use borrow.Author.Tests.{ne_eqb}
use lib.Dec.{eqb}
use lib.ListN.{length}
use Rattle.lent.proofs.NeverLaws.{never}
use Rattle.letters_grammar.specs.Letters.{is_digit}
use Rattle.letters_grammar.specs.Reading.{Bracket, Mode, need, free, after, tens, Move, moves, refuses, at_objects, at_opening, step}
use Rattle.letters_grammar.specs.Faults.{occurrences}
use Rattle.letters_grammar.proofs.LetterLaws.{Lettered, digit_range, letter_no_digit}
use Rattle.letters_grammar.proofs.ReadingLaws.{objects-few}
use Rattle.letters_grammar.proofs.StepLaws.{Plain, wrong, turns, opens, closes, adds}
use Rattle.letters_grammar.proofs.StepLaws.{Cause, plain, begins, either, ends, cause}
use Rattle.letters_grammar.proofs.StepLaws.{Opening, opening_of, opening_room, Adding, adding_of}
use Rattle.letters_grammar.proofs.StepLaws as S

-- whether a second digit must follow
unfoldable pub is_tens : Mode → Bool
is_tens (need q) = false
is_tens free = false
is_tens (after i) = false
is_tens (tens i t) = true

-- whether nothing must follow: the text may end here, with its brackets closed
unfoldable pub is_ready : Mode → Bool
is_ready (need q) = false
is_ready free = true
is_ready (after i) = true
is_ready (tens i t) = false

pub ready_tens : (k : Mode) → is_ready k ≡ true → is_tens k ≡ false
unfolding is_ready is_tens
ready_tens (need q) e = refl
ready_tens free e = refl
ready_tens (after i) e = refl
ready_tens (tens i t) e = never (cc)

-- what a mode tells of the byte before it, which was read in the mode m
unfoldable pub Tells : ℕ → Mode → Mode → Type 0
Tells b m (need q) = Unit {0}
Tells b m free = Unit {0}
Tells b m (after i) = is_digit b ≡ false
Tells b m (tens i t) = (is_digit b ≡ true) × (m ≡ after i)

never_40 : {X : Type 0} {b : ℕ} → b ≡ 40 → eqb b 40 ≡ false → X
never_40 {X} {b} e x = let y : eqb b 40 ≡ true = rw e in never (cc)

module _ (M D : ℕ) (more : Bool) (b : ℕ) (fs : List Bracket) (m : Mode) (ks : List ℕ) where
  -- the reading moved on
  pub record Moved (gs : List Bracket) (k : Mode) (ls : List ℕ) : Type 0 where
    -- so it does under larger limits, and whatever follows, if the mode says of it what is true
    pub larger : (M' D' : ℕ) → M ≤ M' → D ≤ D' → step M' D' more b fs m ks ≡ moves gs k ls
    pub shown : (M' D' : ℕ) → M ≤ M' → D ≤ D' → step M' D' (is_tens k) b fs m ks ≡ moves gs k ls
    pub few : length ks ≤ M → length ls ≤ M
    pub flat : length fs ≤ D → length gs ≤ D
    pub brackets : occurrences 40 (b ∷ []) + length fs ≡ occurrences 41 (b ∷ []) + length gs
    pub opened : b ≡ 40 → length fs < D
    pub tells : Tells b m k

  -- it was refused
  pub data Refusing (n : ℕ) : Type 0 where
    by12 : n ≡ 12 → ((M' D' : ℕ) (any : Bool) → step M' D' any b fs m ks ≡ refuses 12) → Refusing n
    by13 : n ≡ 13 → (k : Mode) (ls : List ℕ) → is_ready k ≡ true → M < length ls → ((M' D' : ℕ) → length ls ≤ M' → step M' D' more b fs m ks ≡ moves fs k ls)
        → (Lettered b ⊎ ((is_digit b ≡ true) × ((more ≡ false) ⊎ (is_tens m ≡ true)))) → Refusing n
    by14 : n ≡ 14 → b ≡ 40 → D ≤ length fs → (g : Bracket) (q : Bool)
        → ((M' D' : ℕ) → length fs < D' → step M' D' more b fs m ks ≡ moves (g ∷ fs) (need q) ks) → Refusing n

  unfoldable pub Facts : Move → Type 0
  Facts (moves gs k ls) = Moved gs k ls
  Facts (refuses n) = Refusing n

  -- ---- each cause

  no_brackets : eqb b 40 ≡ false → eqb b 41 ≡ false → occurrences 40 (b ∷ []) + length fs ≡ occurrences 41 (b ∷ []) + length fs
  unfolding occurrences
  no_brackets x y = rw (x, y)

  digit_none : is_digit b ≡ true → (eqb b 40 ≡ false) × (eqb b 41 ≡ false)
  digit_none d = let r = digit_range b d in (ne_eqb b 40 (λ e. omega arith), ne_eqb b 41 (λ e. omega arith))

  letter_none : Lettered b → (eqb b 40 ≡ false) × (eqb b 41 ≡ false)
  letter_none l = ⊎_elim (λ d. (rw d, rw d)) (⊎_elim (λ d. (rw d, rw d)) (λ d. (rw d, rw d))) l

  facts_turns : (q : Bool) → b ≡ 126 → ((M D : ℕ) (more : Bool) → step M D more b fs m ks ≡ moves fs (need q) ks) → Moved fs (need q) ks
  unfolding is_tens Tells
  facts_turns q h x = record {
    larger = λ M' D' hM hD. x M' D' more;
    shown = λ M' D' hM hD. x M' D' false;
    few = λ l. l;
    flat = λ l. l;
    brackets = no_brackets (rw h) (rw h);
    opened = λ e. absurd (omega arith);
    tells = tt;
  }

  facts_opens : (q : Bool) → b ≡ 40 → ((M D : ℕ) (more : Bool) → step M D more b fs m ks ≡ at_opening M D fs q ks) → Facts (step M D more b fs m ks)
  unfolding Facts is_tens Tells occurrences
  facts_opens q h x = go (opening_of M D fs q ks)
    where
      g : Bracket
      g = record { start = length ks; swapped = q }

      go : Opening M D fs q ks → Facts (step M D more b fs m ks)
      go (S.room l f) =
          subst Facts (sym (x M D more ∙ f M D (omega arith)))
          (record {
            larger = λ M' D' hM hD. x M' D' more ∙ f M' D' hD;
            shown = λ M' D' hM hD. x M' D' false ∙ f M' D' hD;
            few = λ z. z;
            flat = λ z. omega arith;
            brackets = rw h (omega arith);
            opened = λ e. l;
            tells = tt;
          })
      go (S.full l e) = subst Facts (sym (x M D more ∙ e)) (by14 refl h l g q (λ M' D' z. x M' D' more ∙ opening_room M' D' fs q ks z))

  facts_closes : (f : Bracket) (gs : List Bracket) → b ≡ 41 → fs ≡ f ∷ gs
      → ((M D : ℕ) (more : Bool) → step M D more b fs m ks ≡ moves gs (after f.start) ks) → Moved gs (after f.start) ks
  unfolding is_tens Tells occurrences is_digit
  facts_closes f gs h g x =
      let n : length fs ≡ suc (length gs) = ap length g in
      record {
        larger = λ M' D' hM hD. x M' D' more;
        shown = λ M' D' hM hD. x M' D' false;
        few = λ l. l;
        flat = λ l. omega arith;
        brackets = rw h (omega arith);
        opened = λ e. absurd (omega arith);
        tells = rw h;
      }

  -- objects were added, by a letter or by a count's last digit
  facts_adds : (k : Mode) (ls : List ℕ) → is_ready k ≡ true → (Lettered b ⊎ ((is_digit b ≡ true) × ((more ≡ false) ⊎ (is_tens m ≡ true)))) → Tells b m k
      → ((M D : ℕ) → step M D more b fs m ks ≡ at_objects M D fs k ls) → ((M D : ℕ) → step M D false b fs m ks ≡ at_objects M D fs k ls)
      → Facts (step M D more b fs m ks)
  unfolding Facts
  facts_adds k ls n a tells x y = go (adding_of M D fs k ls)
    where
      none : (eqb b 40 ≡ false) × (eqb b 41 ≡ false)
      none = ⊎_elim letter_none (λ d. digit_none d.0) a

      go : Adding M D fs k ls → Facts (step M D more b fs m ks)
      go (S.room l f) =
          subst Facts (sym (x M D ∙ f M D (omega arith)))
          (record {
            larger = λ M' D' hM hD. x M' D' ∙ f M' D' hM;
            shown = λ M' D' hM hD. rw (ready_tens k n) (y M' D' ∙ f M' D' hM);
            few = λ z. l;
            flat = λ z. z;
            brackets = no_brackets none.0 none.1;
            opened = λ e. never_40 e none.0;
            tells = tells;
          })
      go (S.full l e) = subst Facts (sym (x M D ∙ e)) (by13 refl k ls n l (λ M' D' z. x M' D' ∙ objects-few M' D' fs k ls z) a)

  -- the first of two digits
  facts_begins : (i t : ℕ) → m ≡ after i → is_digit b ≡ true → ((M D : ℕ) → step M D more b fs m ks ≡ moves fs (tens i t) ks)
      → ((M D : ℕ) → step M D true b fs m ks ≡ moves fs (tens i t) ks) → Moved fs (tens i t) ks
  unfolding is_tens Tells
  facts_begins i t h d x y = record {
    larger = λ M' D' hM hD. x M' D';
    shown = λ M' D' hM hD. y M' D';
    few = λ l. l;
    flat = λ l. l;
    brackets = no_brackets (digit_none d).0 (digit_none d).1;
    opened = λ e. never_40 e (digit_none d).0;
    tells = (d, h);
  }

  facts_plain : Plain b fs ks (λ M D more. step M D more b fs m ks) → Facts (step M D more b fs m ks)
  unfolding Facts is_tens is_ready Tells
  facts_plain (wrong x) = subst Facts (sym (x M D more)) (by12 refl x)
  facts_plain (turns q h x) = subst Facts (sym (x M D more)) (facts_turns q h x)
  facts_plain (opens q h x) = facts_opens q h x
  facts_plain (closes f gs h g x) = subst Facts (sym (x M D more)) (facts_closes f gs h g x)
  facts_plain (adds i ls h x) = facts_adds (after i) ls refl (inl h) (letter_no_digit h) (λ M' D'. x M' D' more) (λ M' D'. x M' D' false)

  pub facts : Facts (step M D more b fs m ks)
  unfolding Facts is_tens is_ready Tells
  facts = go (cause b fs m ks)
    where
      two : (i t : ℕ) (ls : List ℕ) → m ≡ after i → is_digit b ≡ true → ((M D : ℕ) → step M D true b fs m ks ≡ moves fs (tens i t) ks)
          → ((M D : ℕ) → step M D false b fs m ks ≡ at_objects M D fs free ls) → (z : Bool) → more ≡ z → Facts (step M D more b fs m ks)
      two i t ls h d x y true e =
          let v : (M D : ℕ) → step M D more b fs m ks ≡ moves fs (tens i t) ks = λ M' D'. rw e (x M' D') in
          subst Facts (sym (v M D)) (facts_begins i t h d v x)
      two i t ls h d x y false e = facts_adds free ls refl (inr (d, inl e)) tt (λ M' D'. rw e (y M' D')) y

      go : Cause b fs m ks → Facts (step M D more b fs m ks)
      go (plain x) = facts_plain x
      go (begins i t h d x) = subst Facts (sym (x M D more)) (facts_begins i t h d (λ M' D'. x M' D' more) (λ M' D'. x M' D' true))
      go (either i t ls h d x y) = two i t ls h d x y more refl
      go (ends i t ls h d x) = facts_adds free ls refl (inr (d, inr (rw h))) tt (λ M' D'. x M' D' more) (λ M' D'. x M' D' false)
