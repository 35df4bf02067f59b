-- What the reading does at a place of a text, by the byte that stands there: for readers that have a place and not a list.
use mathlib.Core.Path.{◌≡◌, sym, ◌∙◌}
use mathlib.Core.Bool.{Bool, true, false, not, ◌||◌}
use mathlib.Core.List.{List, [], ◌∷◌}
use Prim.Native.Nat.{ℕ, ◌+◌, ◌-◌, ◌*◌, ◌≤◌, ◌<◌}
use lib.Dec.{eqb}
use lib.ListN.{length, drop, get_or}
use Rattle.letters_grammar.specs.Letters.{is_digit}
use Rattle.letters_grammar.specs.Reading.{Bracket, need, free, after, tens, good, refused, digit_first, exchanged, repeated}
use Rattle.letters_grammar.specs.Reading.{at_closing, ended, at_end, step, run}
use Rattle.letters_grammar.proofs.LetterLaws.{Lettered}
use Rattle.letters_grammar.proofs.ReadingLaws.{with_letter, objects-many, objects-few}
use Rattle.letters_grammar.proofs.ReadingLaws.{item_tilde, item_deep_lem, item_open, item_letter, item_other}
use Rattle.letters_grammar.proofs.ReadingLaws.{free_item, free_close, after_none, after_zero, after_tens, after_one, tens_digit, tens_none}
use Rattle.letters_grammar.proofs.ReadingLaws.{count-many, count-few, run-end, run_byte, place-on, place_stops}

module _ (M D : ℕ) where
  -- ---- an item must follow

  module _ (s : List ℕ) (at : ℕ) (fs : List Bracket) (ks : List ℕ) (q : Bool) (l : at < length s) where
    pub need_tilde : get_or s at 0 ≡ 126 → run M D (drop at s) at fs (need q) ks ≡ run M D (drop (at + 1) s) (at + 1) fs (need (not q)) ks
    unfolding step
    need_tilde e = place-on M D s at fs (need q) ks l (item_tilde M D (get_or s at 0) fs q ks e)

    pub need-deep : get_or s at 0 ≡ 40 → D ≤ length fs → run M D (drop at s) at fs (need q) ks ≡ refused 14 at
    unfolding step
    need-deep e h = place_stops M D s at fs (need q) ks l (item_deep_lem M D (get_or s at 0) fs q ks e h)

    pub need_open : get_or s at 0 ≡ 40 → length fs < D
        → run M D (drop at s) at fs (need q) ks ≡ run M D (drop (at + 1) s) (at + 1) (record { start = length ks; swapped = q } ∷ fs) (need q) ks
    unfolding step
    need_open e h = place-on M D s at fs (need q) ks l (item_open M D (get_or s at 0) fs q ks e h)

    pub need-many : Lettered (get_or s at 0) → M < length (with_letter q (get_or s at 0) ks) → run M D (drop at s) at fs (need q) ks ≡ refused 13 at
    unfolding step
    need-many e h =
        let ls : List ℕ = with_letter q (get_or s at 0) ks in
        place_stops M D s at fs (need q) ks l (item_letter M D (get_or s at 0) fs q ks e ∙ objects-many M D fs (after (length ks)) ls h)

    pub need-letter : Lettered (get_or s at 0) → length (with_letter q (get_or s at 0) ks) ≤ M
        → run M D (drop at s) at fs (need q) ks ≡ run M D (drop (at + 1) s) (at + 1) fs (after (length ks)) (with_letter q (get_or s at 0) ks)
    unfolding step
    need-letter e h =
        let ls : List ℕ = with_letter q (get_or s at 0) ks in
        place-on M D s at fs (need q) ks l (item_letter M D (get_or s at 0) fs q ks e ∙ objects-few M D fs (after (length ks)) ls h)

    pub need_other : (get_or s at 0 ≡ 126 → ⊥) → (get_or s at 0 ≡ 40 → ⊥) → (Lettered (get_or s at 0) → ⊥)
        → run M D (drop at s) at fs (need q) ks ≡ refused 12 at
    unfolding step
    need_other x y z = place_stops M D s at fs (need q) ks l (item_other M D (get_or s at 0) fs q ks x y z)

  pub need-end : (s : List ℕ) (at : ℕ) (fs : List Bracket) (ks : List ℕ) (q : Bool) → length s ≤ at → run M D (drop at s) at fs (need q) ks ≡ refused 12 at
  unfolding at_end
  need-end s at fs ks q h = run-end M D s at fs (need q) ks h

  -- ---- an item, a closing bracket or the end may follow

  module _ (s : List ℕ) (at : ℕ) (ks : List ℕ) where
    pub free-need : (fs : List Bracket) → at < length s → (get_or s at 0 ≡ 41 → ⊥)
        → run M D (drop at s) at fs free ks ≡ run M D (drop at s) at fs (need (exchanged fs)) ks
    unfolding step
    free-need fs l e =
        run_byte M D s at fs free ks l ∙ rw (free_item M D (get_or s at 0) fs ks e) (sym (run_byte M D s at fs (need (exchanged fs)) ks l))

    pub free_closed : (f : Bracket) (fs : List Bracket) → at < length s → get_or s at 0 ≡ 41
        → run M D (drop at s) at (f ∷ fs) free ks ≡ run M D (drop (at + 1) s) (at + 1) fs (after f.start) ks
    unfolding step at_closing
    free_closed f fs l e = place-on M D s at (f ∷ fs) free ks l (free_close M D (get_or s at 0) (f ∷ fs) ks e)

    pub free_loose : at < length s → get_or s at 0 ≡ 41 → run M D (drop at s) at [] free ks ≡ refused 12 at
    unfolding step at_closing
    free_loose l e = place_stops M D s at [] free ks l (free_close M D (get_or s at 0) [] ks e)

    pub free_open_end : (f : Bracket) (fs : List Bracket) → length s ≤ at → run M D (drop at s) at (f ∷ fs) free ks ≡ refused 12 at
    unfolding at_end ended
    free_open_end f fs h = run-end M D s at (f ∷ fs) free ks h

    pub free-end : length s ≤ at → run M D (drop at s) at [] free ks ≡ good ks
    unfolding at_end ended
    free-end h = run-end M D s at [] free ks h

  -- ---- a count may follow

  module _ (s : List ℕ) (at i : ℕ) (fs : List Bracket) (ks : List ℕ) where
    pub no_count-end : length s ≤ at → run M D (drop at s) at fs (after i) ks ≡ run M D (drop at s) at fs free ks
    unfolding at_end
    no_count-end h = run-end M D s at fs (after i) ks h ∙ sym (run-end M D s at fs free ks h)

    pub no_count : at < length s → is_digit (get_or s at 0) ≡ false → run M D (drop at s) at fs (after i) ks ≡ run M D (drop at s) at fs free ks
    unfolding step
    no_count l e =
        run_byte M D s at fs (after i) ks l
        ∙ rw (after_none M D (digit_first (drop (at + 1) s)) (get_or s at 0) i fs ks e) (sym (run_byte M D s at fs free ks l))

    pub count_zero : at < length s → get_or s at 0 ≡ 48 → run M D (drop at s) at fs (after i) ks ≡ refused 12 at
    unfolding step
    count_zero l e = place_stops M D s at fs (after i) ks l (after_zero M D (digit_first (drop (at + 1) s)) (get_or s at 0) i fs ks e)

    module _ (l : at < length s) (d : is_digit (get_or s at 0) ≡ true) where
      module _ (z : get_or s at 0 ≡ 48 → ⊥) where
        pub count_first : (eqb (get_or s at 0) 49 || digit_first (drop (at + 1) s)) ≡ true
            → run M D (drop at s) at fs (after i) ks ≡ run M D (drop (at + 1) s) (at + 1) fs (tens i (get_or s at 0 - 48)) ks
        unfolding step
        count_first m = place-on M D s at fs (after i) ks l (after_tens M D (digit_first (drop (at + 1) s)) (get_or s at 0) i fs ks d z m)

        module _ (m : (eqb (get_or s at 0) 49 || digit_first (drop (at + 1) s)) ≡ false) where
          pub count_one : length (repeated (get_or s at 0 - 48) i ks) ≤ M
              → run M D (drop at s) at fs (after i) ks ≡ run M D (drop (at + 1) s) (at + 1) fs free (repeated (get_or s at 0 - 48) i ks)
          unfolding step
          count_one h =
              place-on M D s at fs (after i) ks l
              (after_one M D (digit_first (drop (at + 1) s)) (get_or s at 0) i fs ks d z m ∙ count-few M D (get_or s at 0 - 48) i fs ks h)

          pub count_one_many : M < length (repeated (get_or s at 0 - 48) i ks) → run M D (drop at s) at fs (after i) ks ≡ refused 13 at
          unfolding step
          count_one_many h =
              place_stops M D s at fs (after i) ks l
              (after_one M D (digit_first (drop (at + 1) s)) (get_or s at 0) i fs ks d z m ∙ count-many M D (get_or s at 0 - 48) i fs ks h)

      pub count-second : (t : ℕ) → length (repeated (10 * t + (get_or s at 0 - 48)) i ks) ≤ M
          → run M D (drop at s) at fs (tens i t) ks ≡ run M D (drop (at + 1) s) (at + 1) fs free (repeated (10 * t + (get_or s at 0 - 48)) i ks)
      unfolding step
      count-second t h =
          place-on M D s at fs (tens i t) ks l (tens_digit M D (get_or s at 0) i t fs ks d ∙ count-few M D (10 * t + (get_or s at 0 - 48)) i fs ks h)

      pub count-second-many : (t : ℕ) → M < length (repeated (10 * t + (get_or s at 0 - 48)) i ks) → run M D (drop at s) at fs (tens i t) ks ≡ refused 13 at
      unfolding step
      count-second-many t h =
          place_stops M D s at fs (tens i t) ks l (tens_digit M D (get_or s at 0) i t fs ks d ∙ count-many M D (10 * t + (get_or s at 0 - 48)) i fs ks h)

    pub no_second : (t : ℕ) → at < length s → is_digit (get_or s at 0) ≡ false → run M D (drop at s) at fs (tens i t) ks ≡ refused 12 at
    unfolding step
    no_second t l d = place_stops M D s at fs (tens i t) ks l (tens_none M D (get_or s at 0) i t fs ks d)

    pub no_second-end : (t : ℕ) → length s ≤ at → run M D (drop at s) at fs (tens i t) ks ≡ refused 12 at
    unfolding at_end
    no_second-end t h = run-end M D s at fs (tens i t) ks h
