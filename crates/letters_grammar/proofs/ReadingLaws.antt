-- One law for each thing that a byte can do in the reading, and the same at a place of a text.
use mathlib.Core.Path.{◌≡◌, refl, ◌∙◌}
use mathlib.Core.Logic.{inl, inr, ⊎_elim}
use mathlib.Core.Bool.{Bool, true, false, not, ◌||◌}
use mathlib.Core.List.{List, [], ◌∷◌, ◌++◌}
use Prim.Native.Nat.{ℕ, zero, suc, ◌+◌, ◌-◌, ◌*◌, ◌≤◌, ◌<◌}
use native.Mathlib.Numerals.{add-one}
use borrow.Author.Tests.{lt-ltb, le-ltb, le-leb, lt-leb, ne_eqb}
use lib.Dec.{eqb}
use lib.ListN.{length, drop, get_or, drop_of_length-le}
use lib.Seq.{drop-cons}
use Rattle.letters_grammar.specs.Letters.{is_digit, is_letter, kind_of, exchanged_if}
use Rattle.letters_grammar.specs.Reading.{Bracket, Mode, need, free, after, tens, moves, refuses, refused}
use Rattle.letters_grammar.specs.Reading.{digit_first, exchanged, repeated, at_closing, at_end, follow}
use Rattle.letters_grammar.specs.Reading.{at_objects, at_opening, at_item, at_free, at_count, at_after, at_tens, step, run, shorthand}
use Rattle.letters_grammar.proofs.LetterLaws.{Lettered, a_letter}

no_tilde : {b : ℕ} → Lettered b → eqb b 126 ≡ false
no_tilde e = ⊎_elim (λ d. rw d) (⊎_elim (λ d. rw d) (λ d. rw d)) e

no_opening : {b : ℕ} → Lettered b → eqb b 40 ≡ false
no_opening e = ⊎_elim (λ d. rw d) (⊎_elim (λ d. rw d) (λ d. rw d)) e

-- the objects with one letter more
abbrev pub with_letter : Bool → ℕ → List ℕ → List ℕ
with_letter q b ks = ks ++ exchanged_if q (kind_of b ∷ [])

module _ (M D : ℕ) where
  -- ---- objects are added

  module _ (fs : List Bracket) (m : Mode) (ks : List ℕ) where
    pub objects-many : M < length ks → at_objects M D fs m ks ≡ refuses 13
    unfolding at_objects
    objects-many h = rw (lt-ltb _ _ h)

    pub objects-few : length ks ≤ M → at_objects M D fs m ks ≡ moves fs m ks
    unfolding at_objects
    objects-few h = rw (le-ltb _ _ h)

  -- ---- an item must follow

  module _ (b : ℕ) (fs : List Bracket) (q : Bool) (ks : List ℕ) where
    pub item_tilde : b ≡ 126 → at_item M D b fs q ks ≡ moves fs (need (not q)) ks
    unfolding at_item
    item_tilde e = rw e

    pub item_deep_lem : b ≡ 40 → D ≤ length fs → at_item M D b fs q ks ≡ refuses 14
    unfolding at_item at_opening
    item_deep_lem e h = rw (e, le-leb _ _ h)

    pub item_open : b ≡ 40 → length fs < D → at_item M D b fs q ks ≡ moves (record { start = length ks; swapped = q } ∷ fs) (need q) ks
    unfolding at_item at_opening
    item_open e h = rw (e, lt-leb _ _ h)

    pub item_letter : Lettered b → at_item M D b fs q ks ≡ at_objects M D fs (after (length ks)) (with_letter q b ks)
    unfolding at_item
    item_letter e = rw (no_tilde e, no_opening e, a_letter e)

    pub item_other : (b ≡ 126 → ⊥) → (b ≡ 40 → ⊥) → (Lettered b → ⊥) → at_item M D b fs q ks ≡ refuses 12
    unfolding at_item is_letter
    item_other t o l =
        rw (ne_eqb _ _ t, ne_eqb _ _ o, ne_eqb b 100 (λ e. l (inl e)), ne_eqb b 107 (λ e. l (inr (inl e))), ne_eqb b 110 (λ e. l (inr (inr e))))

  -- ---- an item, a closing bracket or the end may follow

  module _ (b : ℕ) (fs : List Bracket) (ks : List ℕ) where
    pub free_item : (b ≡ 41 → ⊥) → at_free M D b fs ks ≡ at_item M D b fs (exchanged fs) ks
    unfolding at_free
    free_item e = rw (ne_eqb _ _ e)

    pub free_close : b ≡ 41 → at_free M D b fs ks ≡ at_closing fs ks
    unfolding at_free
    free_close e = rw e

  -- ---- a count may follow

  module _ (more : Bool) (b i : ℕ) (fs : List Bracket) (ks : List ℕ) where
    pub after_none : is_digit b ≡ false → at_after M D more b i fs ks ≡ at_free M D b fs ks
    unfolding at_after
    after_none e = rw e

    pub after_zero : b ≡ 48 → at_after M D more b i fs ks ≡ refuses 12
    unfolding at_after is_digit
    after_zero e = rw e

    pub after_tens : is_digit b ≡ true → (b ≡ 48 → ⊥) → (eqb b 49 || more) ≡ true → at_after M D more b i fs ks ≡ moves fs (tens i (b - 48)) ks
    unfolding at_after
    after_tens d z m = rw (d, ne_eqb _ _ z, m)

    pub after_one : is_digit b ≡ true → (b ≡ 48 → ⊥) → (eqb b 49 || more) ≡ false → at_after M D more b i fs ks ≡ at_count M D (b - 48) i fs ks
    unfolding at_after
    after_one d z m = rw (d, ne_eqb _ _ z, m)

  module _ (b i t : ℕ) (fs : List Bracket) (ks : List ℕ) where
    pub tens_digit : is_digit b ≡ true → at_tens M D b i t fs ks ≡ at_count M D (10 * t + (b - 48)) i fs ks
    unfolding at_tens
    tens_digit e = rw e

    pub tens_none : is_digit b ≡ false → at_tens M D b i t fs ks ≡ refuses 12
    unfolding at_tens
    tens_none e = rw e

  module _ (n i : ℕ) (fs : List Bracket) (ks : List ℕ) where
    pub count-many : M < length (repeated n i ks) → at_count M D n i fs ks ≡ refuses 13
    unfolding at_count
    count-many h = objects-many fs free (repeated n i ks) h

    pub count-few : length (repeated n i ks) ≤ M → at_count M D n i fs ks ≡ moves fs free (repeated n i ks)
    unfolding at_count
    count-few h = objects-few fs free (repeated n i ks) h

  -- ---- what a byte does, the rest follows

  module _ (b : ℕ) (bs : List ℕ) (p : ℕ) (fs : List Bracket) (m : Mode) (ks : List ℕ) where
    pub run-on : {gs : List Bracket} {k : Mode} {ls : List ℕ} → step M D (digit_first bs) b fs m ks ≡ moves gs k ls
        → run M D (b ∷ bs) p fs m ks ≡ run M D bs (p + 1) gs k ls
    unfolding run follow
    run-on e = rw e

    pub run_stops : {n : ℕ} → step M D (digit_first bs) b fs m ks ≡ refuses n → run M D (b ∷ bs) p fs m ks ≡ refused n p
    unfolding run follow
    run_stops e = rw e

  -- ---- the same at a place of a text

  pub run-end : (s : List ℕ) (at : ℕ) (fs : List Bracket) (m : Mode) (ks : List ℕ) → length s ≤ at → run M D (drop at s) at fs m ks ≡ at_end at fs m ks
  unfolding run
  run-end s at fs m ks h = rw (drop_of_length-le s h)

  pub run_byte : (s : List ℕ) (at : ℕ) (fs : List Bracket) (m : Mode) (ks : List ℕ) → at < length s
      → run M D (drop at s) at fs m ks ≡ follow (step M D (digit_first (drop (at + 1) s)) (get_or s at 0) fs m ks) at (run M D (drop (at + 1) s))
  unfolding run
  run_byte s at fs m ks h = rw (drop-cons s at 0 h, add-one at)

  module _ (s : List ℕ) (at : ℕ) (fs : List Bracket) (m : Mode) (ks : List ℕ) (l : at < length s) where
    pub place-on : {gs : List Bracket} {k : Mode} {ls : List ℕ} → step M D (digit_first (drop (at + 1) s)) (get_or s at 0) fs m ks ≡ moves gs k ls
        → run M D (drop at s) at fs m ks ≡ run M D (drop (at + 1) s) (at + 1) gs k ls
    unfolding follow
    place-on e = run_byte s at fs m ks l ∙ rw e

    pub place_stops : {n : ℕ} → step M D (digit_first (drop (at + 1) s)) (get_or s at 0) fs m ks ≡ refuses n → run M D (drop at s) at fs m ks ≡ refused n at
    unfolding follow
    place_stops e = run_byte s at fs m ks l ∙ rw e

-- a digit stands at a place
pub digit_behind : (t : List ℕ) (n : ℕ) → digit_first (drop n t) ≡ is_digit (get_or t n 0)
unfolding digit_first is_digit
digit_behind [] zero = refl
digit_behind [] (suc n) = refl
digit_behind (b ∷ t) zero = refl
digit_behind (b ∷ t) (suc n) = digit_behind t n

-- ---- a whole text, and what an open bracket tells

pub shorthand-run : (M D : ℕ) (t : List ℕ) → shorthand M D t ≡ run M D t 0 [] free []
unfolding shorthand
shorthand-run M D t = refl

pub exchanged_none : exchanged [] ≡ false
unfolding exchanged
exchanged_none = refl

pub exchanged-inside : (f : Bracket) (fs : List Bracket) → exchanged (f ∷ fs) ≡ f.swapped
unfolding exchanged
exchanged-inside f fs = refl
