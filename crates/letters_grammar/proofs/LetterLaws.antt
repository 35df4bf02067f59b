-- Bytes: which are letters and digits, a letter's kind and a kind's letter, and one line feed at the end, case by case.
use mathlib.Core.Path.{◌≡◌, refl, sym}
use mathlib.Core.Logic.{◌⊎◌, inl, inr, ⊎_elim}
use mathlib.Core.Bool.{Bool, true, false, cond}
use mathlib.Core.List.{List, [], ◌∷◌}
use Prim.Native.Nat.{ℕ, zero, suc, ◌+◌, ◌-◌, ◌≤◌, ◌<◌}
use native.Mathlib.Omega.{arith}
use denote.Ref.{Bor}
use lib.ListN.{length, take, drop, get_or}
use lib.Seq.{take_all, length-take-le}
use Rattle.std.proofs.Common.{Option, MatchOption}
use Rattle.std.specs.Option.{unwrap_or}
use Rattle.std.specs.Cmp.Lexicographic.{pointwise}
use Rattle.lent.proofs.SuffixLaws.{stripped}
use borrow.Author.Tests.{lt-ltb, le-ltb, ltb-true, ltb-false, eqb-true}
use lib.Dec.{eqb, ltb}
use Rattle.lent.proofs.NeverLaws.{never}
use Rattle.letters_grammar.specs.Letters.{trimmed, is_digit, is_letter, kind_of, letter_of, exchanged_kind, exchanged_if}

-- ---- letters

-- b is a letter, for a proof to take apart
abbrev pub Lettered : ℕ → Type 0
Lettered b = (b ≡ 100) ⊎ ((b ≡ 107) ⊎ (b ≡ 110))

pub a_letter : {b : ℕ} → Lettered b → is_letter b ≡ true
unfolding is_letter
a_letter e = ⊎_elim (λ d. rw d) (⊎_elim (λ d. rw d) (λ d. rw d)) e

pub letter_cases : (b : ℕ) → is_letter b ≡ true → Lettered b
unfolding is_letter
letter_cases b e = go (eqb b 100) (eqb b 107) (eqb b 110) refl refl refl e
  where
    go : (d k n : Bool) → eqb b 100 ≡ d → eqb b 107 ≡ k → eqb b 110 ≡ n → cond d true (cond k true n) ≡ true → Lettered b
    go true k n x y z f = inl (eqb-true b 100 x)
    go false true n x y z f = inr (inl (eqb-true b 107 y))
    go false false true x y z f = inr (inr (eqb-true b 110 z))
    go false false false x y z f = never (cc)

-- ---- digits

pub digit_yes : (b : ℕ) → 48 ≤ b → b < 58 → is_digit b ≡ true
unfolding is_digit
digit_yes b l h = rw (le-ltb _ _ l, lt-ltb _ _ h)

pub digit_low : (b : ℕ) → b < 48 → is_digit b ≡ false
unfolding is_digit
digit_low b l = rw (lt-ltb _ _ l)

pub digit_high : (b : ℕ) → 58 ≤ b → is_digit b ≡ false
unfolding is_digit
digit_high b h = rw (le-ltb b 58 h, le-ltb b 48 (omega arith))

pub digit_range : (b : ℕ) → is_digit b ≡ true → (48 ≤ b) × (b < 58)
unfolding is_digit
digit_range b e = go (ltb b 48) (ltb b 58) refl refl e
  where
    go : (x y : Bool) → ltb b 48 ≡ x → ltb b 58 ≡ y → cond x false y ≡ true → (48 ≤ b) × (b < 58)
    go true y p q f = never (cc)
    go false true p q f = (ltb-false b 48 p, ltb-true b 58 q)
    go false false p q f = never (cc)

pub letter_no_digit : {b : ℕ} → Lettered b → is_digit b ≡ false
unfolding is_digit
letter_no_digit e = ⊎_elim (λ d. rw d) (⊎_elim (λ d. rw d) (λ d. rw d)) e

-- ---- a kind, with d and k exchanged or not

pub exchanged_not : (q : Bool) (k : ℕ) → q ≡ false → k ∷ [] ≡ exchanged_if q (k ∷ [])
unfolding exchanged_if
exchanged_not q k e = rw e

pub exchanged_center : (q : Bool) → q ≡ true → 1 ∷ [] ≡ exchanged_if q (0 ∷ [])
unfolding exchanged_if exchanged_kind
exchanged_center q e = rw e

pub exchanged_rim : (q : Bool) → q ≡ true → 0 ∷ [] ≡ exchanged_if q (1 ∷ [])
unfolding exchanged_if exchanged_kind
exchanged_rim q e = rw e

pub exchanged_other : (q : Bool) → 2 ∷ [] ≡ exchanged_if q (2 ∷ [])
unfolding exchanged_if exchanged_kind
exchanged_other true = refl
exchanged_other false = refl

-- ---- a kind's letter

-- the letter of a letter's kind is that letter
pub letter_again : (b : ℕ) → is_letter b ≡ true → letter_of (kind_of b) ≡ b
unfolding is_letter kind_of letter_of
letter_again b e = go (eqb b 100) (eqb b 107) (eqb b 110) refl refl refl e
  where
    go : (d k n : Bool) → eqb b 100 ≡ d → eqb b 107 ≡ k → eqb b 110 ≡ n → cond d true (cond k true n) ≡ true → letter_of (cond d 0 (cond k 1 2)) ≡ b
    go true k n x y z e = sym (eqb-true b 100 x)
    go false true n x y z e = sym (eqb-true b 107 y)
    go false false true x y z e = sym (eqb-true b 110 z)
    go false false false x y z e = never (cc)

pub kind_again : (k : ℕ) → k ≤ 2 → kind_of (letter_of k) ≡ k
unfolding kind_of letter_of
kind_again zero h = refl
kind_again (suc zero) h = refl
kind_again (suc (suc zero)) h = refl
kind_again (suc (suc (suc k))) h = absurd (omega arith)

-- it is one byte of a text
pub letter_ascii : (k : ℕ) → letter_of k < 128
unfolding letter_of
letter_ascii k = go (eqb k 0) (eqb k 1)
  where
    go : (d r : Bool) → cond d 100 (cond r 107 110) < 128
    go true r = omega arith
    go false true = omega arith
    go false false = omega arith

-- ---- one line feed at the end

-- what is left of a text without that suffix, or else the text, is the trimmed one
pub trimmed_is : (s : Bor (List ℕ)) (r : Option (Bor (List ℕ))) {x : Bor (List ℕ)}
    → MatchOption r (pointwise eqb (drop (length s.now - 1) s.now) (10 ∷ []) ≡ false)
    (λ x. (pointwise eqb (drop (length s.now - 1) s.now) (10 ∷ []) ≡ true) × (x.now ≡ take (length s.now - 1) s.now) × (length x.now + 1 ≡ length s.now))
    → x ≡ unwrap_or r s → x.now ≡ trimmed s.now
unfolding trimmed
trimmed_is s r h e = rw e (sym (stripped 10 (omega arith) s r h))

length-trimmed : (s : List ℕ) → length s ≤ length (trimmed s) + 1
unfolding trimmed
length-trimmed s = go (eqb (get_or s (length s - 1) 0) 10)
  where
    go : (a : Bool) → length s ≤ length (cond a (take (length s - 1) s) s) + 1
    go true = omega (arith, length-take-le (length s - 1) s (omega arith))
    go false = omega arith

-- where all texts that are too long are answered alike, an input's first bytes tell what is answered
pub trimmed_front : {A : Type 0} (f : List ℕ → A) (most n : ℕ) (s : List ℕ) → ((t u : List ℕ) → most < length t → most < length u → f t ≡ f u)
    → most + 2 ≤ n → f (trimmed (take n s)) ≡ f (trimmed s)
trimmed_front f most n s alike h = go (ltb n (length s)) refl
  where
    go : (a : Bool) → ltb n (length s) ≡ a → f (trimmed (take n s)) ≡ f (trimmed s)
    go false e = rw (take_all n s (ltb-false _ _ e))
    go true e =
        let k : n < length s = ltb-true _ _ e in
        let l : length (take n s) ≡ n = length-take-le n s (omega arith) in
        alike (trimmed (take n s)) (trimmed s) (omega (arith, length-trimmed (take n s))) (omega (arith, length-trimmed s))
