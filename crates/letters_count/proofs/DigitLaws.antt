-- The cases of a digit, and of a count by its digits.
use mathlib.Core.Path.{◌≡◌}
use mathlib.Core.Bool.{true, false}
use mathlib.Core.List.{List}
use Prim.Native.Nat.{ℕ, ◌+◌, ◌-◌, ◌*◌, ◌≤◌, ◌<◌}
use borrow.Author.Tests.{le-leb, lt-leb, eq-eqb, ne_eqb}
use lib.ListN.{length, get_or}
use Rattle.std.proofs.Common.{Some, None, Ok, Err}
use Rattle.letters_grammar.specs.Letters.{is_digit}
use Rattle.letters_grammar.proofs.LetterLaws.{digit_yes, digit_low, digit_high}
use Rattle.letters_count.specs.declared.Fault.TheVariants.{Misplaced}
use Rattle.letters_count.specs.passes.Counts.{digit_at, refusal, times, count_behind, count_by, count_at}

module _ (s : List ℕ) (p : ℕ) where
  -- ---- a digit

  pub at_end_lem : length s ≤ p → None ≡ digit_at s p
  unfolding digit_at
  at_end_lem h = rw (le-leb _ _ h)

  pub at_other : p < length s → is_digit (get_or s p 0) ≡ false → None ≡ digit_at s p
  unfolding digit_at
  at_other h d = rw (lt-leb _ _ h, d)

  pub at_digit : p < length s → is_digit (get_or s p 0) ≡ true → Some (get_or s p 0 - 48) ≡ digit_at s p
  unfolding digit_at
  at_digit h d = rw (lt-leb _ _ h, d)

  -- ---- a count by its digits

  pub count_none : None ≡ digit_at s p → Ok None ≡ count_at s p
  unfolding count_at count_by
  count_none x = rw (← x)

  module _ {a : ℕ} (x : Some a ≡ digit_at s p) where
    pub count_zero : a ≡ 0 → Err (refusal Misplaced p) ≡ count_at s p
    unfolding count_at count_by
    count_zero e = rw (← x, eq-eqb _ _ e)

    module _ (z : a ≡ 0 → ⊥) where
      pub count_two : {b : ℕ} → Some b ≡ digit_at s (p + 1) → Ok (Some (times (10 * a + b) (p + 1))) ≡ count_at s p
      unfolding count_at count_by count_behind
      count_two y = rw (← x, ne_eqb _ _ z, ← y)

      pub count_short : None ≡ digit_at s (p + 1) → a ≡ 1 → Err (refusal Misplaced (p + 1)) ≡ count_at s p
      unfolding count_at count_by count_behind
      count_short y e = rw (← x, ne_eqb _ _ z, ← y, eq-eqb _ _ e)

      pub count_one : None ≡ digit_at s (p + 1) → (a ≡ 1 → ⊥) → Ok (Some (times a p)) ≡ count_at s p
      unfolding count_at count_by count_behind
      count_one y e = rw (← x, ne_eqb _ _ z, ← y, ne_eqb _ _ e)

pub ruleset digits = (digit_yes, digit_low, digit_high)

pub ruleset counts = (count_none, count_zero, count_two, count_short, count_one)
