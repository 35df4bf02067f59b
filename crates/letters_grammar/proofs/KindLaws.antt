-- Objects exchanged and repeated, and the text of a count.
use mathlib.Core.Path.{◌≡◌, refl, sym, ap, ◌∙◌}
use mathlib.Core.Logic.{inl, inr}
use mathlib.Core.Bool.{Bool, true, false, not}
use mathlib.Core.List.{List, [], ◌∷◌, ◌++◌, map, append_assoc, map-append}
use Prim.Native.Nat.{ℕ, zero, suc, ◌+◌, ◌-◌, ◌*◌, ◌/◌, ◌%◌, ◌≤◌, ◌<◌}
use native.Mathlib.Nat.{zero-mul, suc-mul}
use native.Mathlib.Omega.{arith}
use borrow.Author.Tests.{lt-ltb, le-ltb, ne_eqb}
use lib.ListN.{length, take, drop, length-append, length-drop, length-map, take-append-drop}
use lib.Seq.{take-append_seam, drop-append_seam, length-take-le}
use Rattle.letters_grammar.specs.Letters.{kind_of, exchanged_kind, exchanged_if}
use Rattle.letters_grammar.specs.Grammar.{Letter, center, rim, non_hit, letter_text, letter_kind, count_text, copies}
use Rattle.letters_grammar.specs.Reading.{repeated}
use Rattle.letters_grammar.proofs.LetterLaws.{Lettered}
use Rattle.letters_grammar.proofs.ReadingLaws.{with_letter}

-- ---- how many

pub length-copies : (n : ℕ) (xs : List ℕ) → length (copies n xs) ≡ n * length xs
unfolding copies
length-copies zero xs = sym (zero-mul (length xs))
length-copies (suc n) xs = length-append (copies n xs) xs ∙ rw (length-copies n xs) (sym (suc-mul n (length xs)))

pub length_if : (q : Bool) (xs : List ℕ) → length (exchanged_if q xs) ≡ length xs
unfolding exchanged_if
length_if true xs = length-map xs exchanged_kind
length_if false xs = refl

pub length-letter : (q : Bool) (b : ℕ) (ks : List ℕ) → length (with_letter q b ks) ≡ length ks + 1
length-letter q b ks = length-append ks (exchanged_if q (kind_of b ∷ [])) ∙ omega (arith, length_if q (kind_of b ∷ []))

pub length-repeated : (n i : ℕ) (ks : List ℕ) → i ≤ length ks → length (repeated n i ks) ≡ i + n * (length ks - i)
unfolding repeated
length-repeated n i ks h =
    length-append (take i ks) (copies n (drop i ks)) ∙ rw (length-take-le i ks h, length-copies n (drop i ks), length-drop i ks)

-- ---- repeated

pub repeated_once : (i : ℕ) (ks : List ℕ) → repeated 1 i ks ≡ ks
unfolding repeated copies
repeated_once i ks = take-append-drop i ks

pub repeated-more : (n i : ℕ) (ks : List ℕ) → repeated (suc n) i ks ≡ repeated n i ks ++ drop i ks
unfolding repeated copies
repeated-more n i ks = sym (append_assoc (take i ks) (copies n (drop i ks)) (drop i ks))

-- the objects after `ks` n times
pub repeated_block : (n : ℕ) (ks xs : List ℕ) → repeated n (length ks) (ks ++ xs) ≡ ks ++ copies n xs
unfolding repeated
repeated_block n ks xs = rw (take-append_seam ks xs, drop-append_seam ks xs)

-- ---- exchanged

pub if_append : (q : Bool) (xs ys : List ℕ) → exchanged_if q (xs ++ ys) ≡ exchanged_if q xs ++ exchanged_if q ys
unfolding exchanged_if
if_append true xs ys = map-append exchanged_kind xs ys
if_append false xs ys = refl

pub if_none : (q : Bool) → exchanged_if q [] ≡ []
unfolding exchanged_if
if_none true = refl
if_none false = refl

pub if_copies : (q : Bool) (n : ℕ) (xs : List ℕ) → exchanged_if q (copies n xs) ≡ copies n (exchanged_if q xs)
unfolding copies
if_copies q zero xs = if_none q
if_copies q (suc n) xs = if_append q (copies n xs) xs ∙ rw (if_copies q n xs)

kept : (k : ℕ) → exchanged_kind (suc (suc k)) ≡ suc (suc k)
unfolding exchanged_kind
kept k = rw (ne_eqb (suc (suc k)) 0 (λ e. omega arith), ne_eqb (suc (suc k)) 1 (λ e. omega arith))

back : (k : ℕ) → exchanged_kind (exchanged_kind k) ≡ k
unfolding exchanged_kind
back zero = refl
back (suc zero) = refl
back (suc (suc k)) = ap exchanged_kind (kept k) ∙ kept k

-- exchanged twice is as it was: `~~d` is `d`
pub exchanged_twice : (xs : List ℕ) → map exchanged_kind (map exchanged_kind xs) ≡ xs
exchanged_twice [] = refl
exchanged_twice (x ∷ xs) = rw (back x, exchanged_twice xs)

pub if_not : (q : Bool) (xs : List ℕ) → exchanged_if (not q) xs ≡ exchanged_if q (map exchanged_kind xs)
unfolding exchanged_if
if_not true xs = sym (exchanged_twice xs)
if_not false xs = refl

-- ---- letters

pub lettered : (l : Letter) (b : ℕ) → b ≡ letter_text l → Lettered b
unfolding letter_text
lettered center b e = inl e
lettered rim b e = inr (inl e)
lettered non_hit b e = inr (inr e)

letter-kind : (l : Letter) → kind_of (letter_text l) ≡ letter_kind l
unfolding kind_of letter_text letter_kind
letter-kind center = refl
letter-kind rim = refl
letter-kind non_hit = refl

pub letter-objects : (q : Bool) (l : Letter) (b n : ℕ) (ks : List ℕ) → b ≡ letter_text l
    → repeated n (length ks) (with_letter q b ks) ≡ ks ++ exchanged_if q (copies n (letter_kind l ∷ []))
letter-objects q l b n ks e =
    repeated_block n ks (exchanged_if q (kind_of b ∷ [])) ∙ rw (e, letter-kind l, if_copies q n (letter_kind l ∷ []))

pub bracket-objects : (q : Bool) (n : ℕ) (ks xs ys : List ℕ)
    → repeated n (length ks) ((ks ++ exchanged_if q xs) ++ exchanged_if q ys) ≡ ks ++ exchanged_if q (copies n (xs ++ ys))
bracket-objects q n ks xs ys =
    rw (append_assoc ks (exchanged_if q xs) (exchanged_if q ys), ← if_append q xs ys)
    (repeated_block n ks (exchanged_if q (xs ++ ys)) ∙ rw (if_copies q n (xs ++ ys)))

-- ---- the text of a count

-- of one digit, and of two
pub one_text : (b : ℕ) → 50 ≤ b → b < 58 → count_text (b - 48) ≡ b ∷ []
unfolding count_text
one_text b l h =
    let x : b - 48 + 48 ≡ b = omega arith in
    rw (ne_eqb (b - 48) 1 (λ e. omega arith), lt-ltb (b - 48) 10 (omega arith), x)

pub two_text : (b d : ℕ) → 49 ≤ b → b < 58 → 48 ≤ d → d < 58 → count_text (10 * (b - 48) + (d - 48)) ≡ b ∷ d ∷ []
unfolding count_text
two_text b d l h l' h' =
    let x : (10 * (b - 48) + (d - 48)) / 10 + 48 ≡ b = omega arith in
    let y : (10 * (b - 48) + (d - 48)) % 10 + 48 ≡ d = omega arith in
    rw (ne_eqb (10 * (b - 48) + (d - 48)) 1 (λ e. omega arith), le-ltb (10 * (b - 48) + (d - 48)) 10 (omega arith), x, y)

pub text_short : (n : ℕ) → 2 ≤ n → n < 10 → count_text n ≡ (n + 48) ∷ []
unfolding count_text
text_short n l h = rw (ne_eqb n 1 (λ e. omega arith), lt-ltb n 10 h)

pub text_long : (n : ℕ) → 10 ≤ n → count_text n ≡ (n / 10 + 48) ∷ (n % 10 + 48) ∷ []
unfolding count_text
text_long n l = rw (ne_eqb n 1 (λ e. omega arith), le-ltb n 10 l)
