-- What the count at a place does to the reading: the byte there, and the one behind it, by the cases of `count_at`.
use mathlib.Core.Path.{◌≡◌, refl, ◌∙◌}
use mathlib.Core.Logic.{◌⊎◌, inl, inr}
use mathlib.Core.Bool.{Bool, true, false, ◌||◌, or-true}
use mathlib.Core.List.{List}
use Prim.Native.Nat.{ℕ, ◌+◌, ◌-◌, ◌*◌, ◌≤◌, ◌<◌}
use native.Mathlib.Omega.{arith}
use borrow.Author.Tests.{eq-eqb, ne_eqb, eqb-true, eqb-false, ltb-true, ltb-false}
use lib.Dec.{eqb, ltb}
use lib.ListN.{length, drop, get_or, get_or-eq_default}
use Rattle.letters_grammar.specs.Letters.{is_digit}
use Rattle.letters_grammar.specs.Reading.{Bracket, free, after, tens, Finding, refused, digit_first, repeated, run}
use Rattle.letters_grammar.proofs.LetterLaws.{digit_low, digit_range}
use Rattle.letters_grammar.proofs.ReadingLaws.{digit_behind}
use Rattle.letters_grammar.proofs.PlaceLaws as place
use Rattle.std.proofs.Common.{Option, Some, None, Result, Ok, Err}
use Rattle.letters_count.specs.declared.Refusal.{Refusal}
use Rattle.letters_count.specs.declared.Times.{Times}
use Rattle.letters_count.specs.Numbers.{number_of}
use Rattle.letters_grammar.specs.Reading.{most_objects, most_brackets}
use Rattle.letters_count.specs.declared.Fault.TheVariants.{Misplaced}
use Rattle.letters_count.specs.passes.Counts.{digit_at, refusal, times, count_at}
use Rattle.letters_count.proofs.DigitLaws.{at_end_lem, at_other, at_digit, count_none, count_zero, count_two, count_short, count_one}

-- the reading of s from a place on, where a count for the objects from i on may follow, and where none may
abbrev counting : List ℕ → ℕ → ℕ → List Bracket → List ℕ → Finding
counting s at i fs ks = run most_objects most_brackets (drop at s) at fs (after i) ks

abbrev going : List ℕ → ℕ → List Bracket → List ℕ → Finding
going s at fs ks = run most_objects most_brackets (drop at s) at fs free ks

-- a count of n whose digits stand from a place on to place q: below 100, within the text, and the objects are repeated
pub record Written (s : List ℕ) (at n q : ℕ) : Type 0 where
  pub some : 1 ≤ n
  pub small : n < 100
  pub later : at ≤ q
  pub within : q < length s
  pub few : (i : ℕ) (fs : List Bracket) (ks : List ℕ) → length (repeated n i ks) ≤ most_objects
      → counting s at i fs ks ≡ going s (q + 1) fs (repeated n i ks)
  pub many : (i : ℕ) (fs : List Bracket) (ks : List ℕ) → most_objects < length (repeated n i ks) → counting s at i fs ks ≡ refused 13 q

unfoldable pub Means : List ℕ → ℕ → Result (Option Times) Refusal → Type 0
Means s at (Ok None) = (i : ℕ) (fs : List Bracket) (ks : List ℕ) → counting s at i fs ks ≡ going s at fs ks
Means s at (Ok (Some t)) = Written s at t.count t.last
Means s at (Err r) = (i : ℕ) (fs : List Bracket) (ks : List ℕ) → counting s at i fs ks ≡ refused (number_of r.fault) r.place

-- ---- what stands at a place

-- the end of the text, or another byte than a digit
data NoDigit (s : List ℕ) (p : ℕ) : Type 0 where
  past : length s ≤ p → NoDigit s p
  other : p < length s → is_digit (get_or s p 0) ≡ false → NoDigit s p

record Digit (s : List ℕ) (p : ℕ) : Type 0 where
  within : p < length s
  digit : is_digit (get_or s p 0) ≡ true
  low : 48 ≤ get_or s p 0
  high : get_or s p 0 < 58

look : (s : List ℕ) (p : ℕ) → NoDigit s p ⊎ Digit s p
look s p = go (ltb p (length s)) (is_digit (get_or s p 0)) refl refl
  where
    go : (x d : Bool) → ltb p (length s) ≡ x → is_digit (get_or s p 0) ≡ d → NoDigit s p ⊎ Digit s p
    go false d l e = inl (past (ltb-false _ _ l))
    go true false l e = inl (other (ltb-true _ _ l) e)
    go true true l e =
        let r = digit_range (get_or s p 0) e in
        inr (record { within = ltb-true _ _ l; digit = e; low = r.0; high = r.1 })

none_is : (s : List ℕ) (p : ℕ) → NoDigit s p → None ≡ digit_at s p
none_is s p (past h) = at_end_lem s p h
none_is s p (other h d) = at_other s p h d

digit_is : (s : List ℕ) (p : ℕ) → Digit s p → Some (get_or s p 0 - 48) ≡ digit_at s p
digit_is s p x = at_digit s p x.within x.digit

none_first : (s : List ℕ) (p : ℕ) → NoDigit s p → digit_first (drop p s) ≡ false
none_first s p (past h) = rw (digit_behind s p, get_or-eq_default s 0 h) (digit_low 0 (omega arith))
none_first s p (other h d) = rw (digit_behind s p) d

one_first : (s : List ℕ) (p : ℕ) → Digit s p → digit_first (drop p s) ≡ true
one_first s p x = rw (digit_behind s p) x.digit

-- ---- the five cases

module _ (s : List ℕ) (at : ℕ) where
  none : NoDigit s at → Means s at (Ok None)
  unfolding Means
  none (past h) = λ i fs ks. place.no_count-end most_objects most_brackets s at i fs ks h
  none (other h d) = λ i fs ks. place.no_count most_objects most_brackets s at i fs ks h d

  module _ (x : Digit s at) where
    zeroed : get_or s at 0 ≡ 48 → Means s at (Err (refusal Misplaced at))
    unfolding Means
    zeroed e = λ i fs ks. place.count_zero most_objects most_brackets s at i fs ks x.within e

    module _ (z : get_or s at 0 ≡ 48 → ⊥) where
      -- the digit is no 0
      above : 49 ≤ get_or s at 0
      above = go (ltb 48 (get_or s at 0)) refl
        where
          go : (y : Bool) → ltb 48 (get_or s at 0) ≡ y → 49 ≤ get_or s at 0
          go true e = omega (arith, ltb-true 48 (get_or s at 0) e)
          go false e = absurd (z (omega (arith, ltb-false 48 (get_or s at 0) e, x.low)))

      -- a second digit must follow, since one does or the first is a 1
      to-second : (eqb (get_or s at 0) 49 || digit_first (drop (at + 1) s)) ≡ true → (i : ℕ) (fs : List Bracket) (ks : List ℕ)
          → counting s at i fs ks ≡ run most_objects most_brackets (drop (at + 1) s) (at + 1) fs (tens i (get_or s at 0 - 48)) ks
      to-second m i fs ks = place.count_first most_objects most_brackets s at i fs ks x.within x.digit z m

      two : Digit s (at + 1) → Means s at (Ok (Some (times (10 * (get_or s at 0 - 48) + (get_or s (at + 1) 0 - 48)) (at + 1))))
      unfolding Means
      two y =
          let m : (eqb (get_or s at 0) 49 || digit_first (drop (at + 1) s)) ≡ true = rw (one_first s (at + 1) y) (or-true (eqb (get_or s at 0) 49)) in
          let t : ℕ = get_or s at 0 - 48 in
          record {
            some = omega (arith, above);
            small = omega arith;
            later = omega arith;
            within = y.within;
            few = λ i fs ks h. to-second m i fs ks ∙ place.count-second most_objects most_brackets s (at + 1) i fs ks y.within y.digit t h;
            many = λ i fs ks h. to-second m i fs ks ∙ place.count-second-many most_objects most_brackets s (at + 1) i fs ks y.within y.digit t h;
          }

      module _ (y : NoDigit s (at + 1)) where
        lone : get_or s at 0 ≡ 49 → Means s at (Err (refusal Misplaced (at + 1)))
        unfolding Means
        lone e = λ i fs ks. to-second (rw (eq-eqb _ _ e)) i fs ks ∙ go i fs ks y
          where
            go : (i : ℕ) (fs : List Bracket) (ks : List ℕ) → NoDigit s (at + 1)
                → run most_objects most_brackets (drop (at + 1) s) (at + 1) fs (tens i (get_or s at 0 - 48)) ks ≡ refused 12 (at + 1)
            go i fs ks (past h) = place.no_second-end most_objects most_brackets s (at + 1) i fs ks (get_or s at 0 - 48) h
            go i fs ks (other h d) = place.no_second most_objects most_brackets s (at + 1) i fs ks (get_or s at 0 - 48) h d

        one : (get_or s at 0 ≡ 49 → ⊥) → Means s at (Ok (Some (times (get_or s at 0 - 48) at)))
        unfolding Means
        one o =
            let less : (eqb (get_or s at 0) 49 || digit_first (drop (at + 1) s)) ≡ false = rw (ne_eqb _ _ o, none_first s (at + 1) y) in
            record {
              some = omega (arith, above);
              small = omega arith;
              later = omega arith;
              within = x.within;
              few = λ i fs ks h. place.count_one most_objects most_brackets s at i fs ks x.within x.digit z less h;
              many = λ i fs ks h. place.count_one_many most_objects most_brackets s at i fs ks x.within x.digit z less h;
            }

    first : Means s at (count_at s at)
    first = go (eqb (get_or s at 0) 48) (eqb (get_or s at 0) 49) refl refl (look s (at + 1))
      where
        go : (z o : Bool) → eqb (get_or s at 0) 48 ≡ z → eqb (get_or s at 0) 49 ≡ o → NoDigit s (at + 1) ⊎ Digit s (at + 1) → Means s at (count_at s at)
        go true o e f k =
            let g : get_or s at 0 ≡ 48 = eqb-true _ _ e in
            rw (← count_zero s at (digit_is s at x) (omega arith)) (zeroed g)
        go false o e f (inr y) =
            let g : get_or s at 0 ≡ 48 → ⊥ = eqb-false _ _ e in
            rw (← count_two s at (digit_is s at x) (λ k. omega (arith, above g)) (digit_is s (at + 1) y)) (two g y)
        go false true e f (inl y) =
            let g : get_or s at 0 ≡ 48 → ⊥ = eqb-false _ _ e in
            let l : get_or s at 0 ≡ 49 = eqb-true _ _ f in
            rw (← count_short s at (digit_is s at x) (λ k. omega (arith, above g)) (none_is s (at + 1) y) (omega arith)) (lone g y l)
        go false false e f (inl y) =
            let g : get_or s at 0 ≡ 48 → ⊥ = eqb-false _ _ e in
            let l : get_or s at 0 ≡ 49 → ⊥ = eqb-false _ _ f in
            rw (← count_one s at (digit_is s at x) (λ k. omega (arith, above g)) (none_is s (at + 1) y) (λ k. l (omega (arith, above g)))) (one g y l)

  pub count-means : Means s at (count_at s at)
  count-means = go (look s at)
    where
      go : NoDigit s at ⊎ Digit s at → Means s at (count_at s at)
      go (inl y) = rw (← count_none s at (none_is s at y)) (none y)
      go (inr x) = first x
