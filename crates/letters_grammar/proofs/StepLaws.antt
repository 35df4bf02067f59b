-- What a byte does, told apart by its cause, which is the same whatever the limits are: it is wrong; it turns d and k, opens or closes a bracket, or
-- adds a letter; it begins a count of two digits, or ends a count. From the cause follows what larger limits, or another byte behind, would change.
use mathlib.Core.Path.{◌≡◌, refl, ◌∙◌}
use mathlib.Core.Logic.{⊎_elim}
use mathlib.Core.Bool.{Bool, true, false, not, ◌||◌}
use mathlib.Core.List.{List, [], ◌∷◌}
use Prim.Native.Nat.{ℕ, ◌+◌, ◌-◌, ◌*◌, ◌≤◌, ◌<◌}
use native.Mathlib.Omega.{arith}
use borrow.Author.Tests.{lt-leb, ltb-true, ltb-false, leb-true, leb-false, eqb-true, eqb-false}
use lib.Dec.{eqb, ltb, leb}
use lib.ListN.{length}
use Rattle.letters_grammar.specs.Letters.{is_digit}
use Rattle.letters_grammar.specs.Grammar.{Letter, center, rim, non_hit, letter_text}
use Rattle.letters_grammar.specs.Reading.{Bracket, Mode, need, free, after, tens, Move, moves, refuses}
use Rattle.letters_grammar.specs.Reading.{exchanged, repeated, at_closing, at_objects, at_opening, at_item, at_free, at_count, step}
use Rattle.letters_grammar.proofs.LetterLaws.{Lettered}
use Rattle.letters_grammar.proofs.ReadingLaws.{with_letter, objects-many, objects-few, item_tilde, item_letter, item_other}
use Rattle.letters_grammar.proofs.ReadingLaws.{free_item, free_close, after_none, after_zero, after_tens, after_one, tens_digit, tens_none}
use Rattle.letters_grammar.proofs.KindLaws.{lettered}

-- ---- bytes

pub data Byte (b : ℕ) : Type 0 where
  tilde : b ≡ 126 → Byte b
  opening : b ≡ 40 → Byte b
  note : (l : Letter) → b ≡ letter_text l → Byte b
  wrong : (b ≡ 126 → ⊥) → (b ≡ 40 → ⊥) → (Lettered b → ⊥) → Byte b

pub byte_of : (b : ℕ) → Byte b
unfolding letter_text
byte_of b = go (eqb b 126) (eqb b 40) (eqb b 100) (eqb b 107) (eqb b 110) refl refl refl refl refl
  where
    go : (t o d k n : Bool) → eqb b 126 ≡ t → eqb b 40 ≡ o → eqb b 100 ≡ d → eqb b 107 ≡ k → eqb b 110 ≡ n → Byte b
    go true o d k n e1 e2 e3 e4 e5 = tilde (eqb-true b 126 e1)
    go false true d k n e1 e2 e3 e4 e5 = opening (eqb-true b 40 e2)
    go false false true k n e1 e2 e3 e4 e5 = note center (eqb-true b 100 e3)
    go false false false true n e1 e2 e3 e4 e5 = note rim (eqb-true b 107 e4)
    go false false false false true e1 e2 e3 e4 e5 = note non_hit (eqb-true b 110 e5)
    go false false false false false e1 e2 e3 e4 e5 =
        wrong (eqb-false b 126 e1) (eqb-false b 40 e2) (⊎_elim (eqb-false b 100 e3) (⊎_elim (eqb-false b 107 e4) (eqb-false b 110 e5)))

pub above : (b n : ℕ) → n ≤ b → (b ≡ n → ⊥) → n < b
above b n l x = go (ltb n b) refl
  where
    go : (z : Bool) → ltb n b ≡ z → n < b
    go true h = ltb-true n b h
    go false h = absurd (x (omega (arith, ltb-false n b h)))

-- a sequence stops at the end of the text or at a closing bracket
pub data Stop (bs : List ℕ) : Type 0 where
  nothing : bs ≡ [] → Stop bs
  bracketed : (r : List ℕ) → bs ≡ 41 ∷ r → Stop bs

-- ---- the cause of what a byte does

-- where `at` tells what it does, by the limits and by whether a digit stands behind it
pub data Plain (b : ℕ) (fs : List Bracket) (ks : List ℕ) (at : ℕ → ℕ → Bool → Move) : Type 0 where
  wrong : ((M D : ℕ) (more : Bool) → at M D more ≡ refuses 12) → Plain b fs ks at
  turns : (q : Bool) → b ≡ 126 → ((M D : ℕ) (more : Bool) → at M D more ≡ moves fs (need q) ks) → Plain b fs ks at
  opens : (q : Bool) → b ≡ 40 → ((M D : ℕ) (more : Bool) → at M D more ≡ at_opening M D fs q ks) → Plain b fs ks at
  closes : (f : Bracket) (gs : List Bracket) → b ≡ 41 → fs ≡ f ∷ gs → ((M D : ℕ) (more : Bool) → at M D more ≡ moves gs (after f.start) ks)
      → Plain b fs ks at
  adds : (i : ℕ) (ls : List ℕ) → Lettered b → ((M D : ℕ) (more : Bool) → at M D more ≡ at_objects M D fs (after i) ls) → Plain b fs ks at

plain_same : {b : ℕ} {fs : List Bracket} {ks : List ℕ} {at to : ℕ → ℕ → Bool → Move} → ((M D : ℕ) (more : Bool) → at M D more ≡ to M D more)
    → Plain b fs ks to → Plain b fs ks at
plain_same s (wrong x) = wrong (λ M D more. s M D more ∙ x M D more)
plain_same s (turns q h x) = turns q h (λ M D more. s M D more ∙ x M D more)
plain_same s (opens q h x) = opens q h (λ M D more. s M D more ∙ x M D more)
plain_same s (closes f gs h g x) = closes f gs h g (λ M D more. s M D more ∙ x M D more)
plain_same s (adds i ls h x) = adds i ls h (λ M D more. s M D more ∙ x M D more)

-- of a digit besides: a 1; a digit from 2 to 9, which is the first of two or the only one; a second digit
pub data Cause (b : ℕ) (fs : List Bracket) (m : Mode) (ks : List ℕ) : Type 0 where
  plain : Plain b fs ks (λ M D more. step M D more b fs m ks) → Cause b fs m ks
  begins : (i t : ℕ) → m ≡ after i → is_digit b ≡ true → ((M D : ℕ) (more : Bool) → step M D more b fs m ks ≡ moves fs (tens i t) ks) → Cause b fs m ks
  either : (i t : ℕ) (ls : List ℕ) → m ≡ after i → is_digit b ≡ true → ((M D : ℕ) → step M D true b fs m ks ≡ moves fs (tens i t) ks)
      → ((M D : ℕ) → step M D false b fs m ks ≡ at_objects M D fs free ls) → Cause b fs m ks
  ends : (i t : ℕ) (ls : List ℕ) → m ≡ tens i t → is_digit b ≡ true → ((M D : ℕ) (more : Bool) → step M D more b fs m ks ≡ at_objects M D fs free ls)
      → Cause b fs m ks

item_cause : (b : ℕ) (fs : List Bracket) (q : Bool) (ks : List ℕ) → Plain b fs ks (λ M D more. at_item M D b fs q ks)
unfolding at_item
item_cause b fs q ks = go (byte_of b)
  where
    go : Byte b → Plain b fs ks (λ M D more. at_item M D b fs q ks)
    go (tilde e) = turns (not q) e (λ M D more. item_tilde M D b fs q ks e)
    go (opening e) = opens q e (λ M D more. rw e)
    go (note l e) = adds (length ks) (with_letter q b ks) (lettered l b e) (λ M D more. item_letter M D b fs q ks (lettered l b e))
    go (wrong x y z) = wrong (λ M D more. item_other M D b fs q ks x y z)

free_cause : (b : ℕ) (fs : List Bracket) (ks : List ℕ) → Plain b fs ks (λ M D more. at_free M D b fs ks)
unfolding at_closing
free_cause b fs ks = go (eqb b 41) refl
  where
    closing : (fs : List Bracket) → b ≡ 41 → Plain b fs ks (λ M D more. at_free M D b fs ks)
    closing [] e = wrong (λ M D more. free_close M D b [] ks e)
    closing (f ∷ gs) e = closes f gs e refl (λ M D more. free_close M D b (f ∷ gs) ks e)

    go : (x : Bool) → eqb b 41 ≡ x → Plain b fs ks (λ M D more. at_free M D b fs ks)
    go true e = closing fs (eqb-true b 41 e)
    go false e = plain_same (λ M D more. free_item M D b fs ks (eqb-false b 41 e)) (item_cause b fs (exchanged fs) ks)

pub cause : (b : ℕ) (fs : List Bracket) (m : Mode) (ks : List ℕ) → Cause b fs m ks
unfolding step at_count
cause b fs (need q) ks = plain (item_cause b fs q ks)
cause b fs free ks = plain (free_cause b fs ks)
cause b fs (after i) ks = go (is_digit b) (eqb b 48) (eqb b 49) refl refl refl
  where
    yes : (more : Bool) → eqb b 49 ≡ true → (eqb b 49 || more) ≡ true
    yes more o = rw o

    or_true : (x : Bool) → (x || true) ≡ true
    or_true true = refl
    or_true false = refl

    no : eqb b 49 ≡ false → (eqb b 49 || false) ≡ false
    no o = rw o

    go : (d z o : Bool) → is_digit b ≡ d → eqb b 48 ≡ z → eqb b 49 ≡ o → Cause b fs (after i) ks
    go false z o x y w = plain (plain_same (λ M D more. after_none M D more b i fs ks x) (free_cause b fs ks))
    go true true o x y w = plain (wrong (λ M D more. after_zero M D more b i fs ks (eqb-true b 48 y)))
    go true false true x y w = begins i (b - 48) refl x (λ M D more. after_tens M D more b i fs ks x (eqb-false b 48 y) (yes more w))
    go true false false x y w =
        either i (b - 48) (repeated (b - 48) i ks) refl x (λ M D. after_tens M D true b i fs ks x (eqb-false b 48 y) (or_true (eqb b 49)))
        (λ M D. after_one M D false b i fs ks x (eqb-false b 48 y) (no w))
cause b fs (tens i t) ks = go (is_digit b) refl
  where
    go : (d : Bool) → is_digit b ≡ d → Cause b fs (tens i t) ks
    go true d = ends i t (repeated (10 * t + (b - 48)) i ks) refl d (λ M D more. tens_digit M D b i t fs ks d)
    go false d = plain (wrong (λ M D more. tens_none M D b i t fs ks d))

-- ---- what follows of it

-- a bracket opens within the limit, or is refused
pub data Opening (M D : ℕ) (fs : List Bracket) (q : Bool) (ks : List ℕ) : Type 0 where
  room : length fs < D → ((M' D' : ℕ) → D ≤ D' → at_opening M' D' fs q ks ≡ moves (record { start = length ks; swapped = q } ∷ fs) (need q) ks)
      → Opening M D fs q ks
  full : D ≤ length fs → at_opening M D fs q ks ≡ refuses 14 → Opening M D fs q ks

pub opening_room : (M D : ℕ) (fs : List Bracket) (q : Bool) (ks : List ℕ) → length fs < D
    → at_opening M D fs q ks ≡ moves (record { start = length ks; swapped = q } ∷ fs) (need q) ks
unfolding at_opening
opening_room M D fs q ks h = rw (lt-leb D (length fs) h)

pub opening_of : (M D : ℕ) (fs : List Bracket) (q : Bool) (ks : List ℕ) → Opening M D fs q ks
unfolding at_opening
opening_of M D fs q ks = go (leb D (length fs)) refl
  where
    go : (x : Bool) → leb D (length fs) ≡ x → Opening M D fs q ks
    go true h = full (leb-true _ _ h) (rw h)
    go false h = room (leb-false _ _ h) (λ M' D' g. opening_room M' D' fs q ks (omega (arith, leb-false D (length fs) h)))

-- objects are within the limit, or refused
pub data Adding (M D : ℕ) (fs : List Bracket) (m : Mode) (ls : List ℕ) : Type 0 where
  room : length ls ≤ M → ((M' D' : ℕ) → M ≤ M' → at_objects M' D' fs m ls ≡ moves fs m ls) → Adding M D fs m ls
  full : M < length ls → at_objects M D fs m ls ≡ refuses 13 → Adding M D fs m ls

pub adding_of : (M D : ℕ) (fs : List Bracket) (m : Mode) (ls : List ℕ) → Adding M D fs m ls
adding_of M D fs m ls = go (ltb M (length ls)) refl
  where
    go : (x : Bool) → ltb M (length ls) ≡ x → Adding M D fs m ls
    go true h = full (ltb-true _ _ h) (objects-many M D fs m ls (ltb-true _ _ h))
    go false h = room (ltb-false _ _ h) (λ M' D' g. objects-few M' D' fs m ls (omega (arith, ltb-false M (length ls) h)))
