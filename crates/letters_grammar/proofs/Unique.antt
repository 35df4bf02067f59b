-- One text, one tree: where two items with anything behind them that begins with no digit have the same bytes, they are the same item, with the same
-- behind them. By induction over one of the trees; the first byte tells what the other is.
use mathlib.Core.Path.{◌≡◌, refl, sym, ap, ◌∙◌}
use mathlib.Core.Logic.{◌⊎◌, inl, inr, ⊎_elim}
use mathlib.Core.Bool.{Bool, true, false}
use mathlib.Core.List.{List, [], ◌∷◌, ◌++◌, append_assoc, append-nil}
use Prim.Native.Nat.{ℕ, ◌+◌, ◌*◌, ◌/◌, ◌%◌, ◌≤◌, ◌<◌}
use native.Mathlib.Omega.{arith}
use borrow.Author.Tests.{ltb-true, ltb-false, eqb-true, eqb-false}
use lib.Dec.{eqb, ltb}
use Rattle.lent.proofs.NeverLaws.{never}
use Rattle.letters_grammar.specs.Letters.{is_digit}
use Rattle.letters_grammar.specs.Grammar.{Letter, center, rim, non_hit, Item, letter, bracket, exchange, Sequence, none, then, Count, ItemCounts, Counts}
use Rattle.letters_grammar.specs.Grammar.{letter_text, count_text, item_text, sequence_text, sequence_kinds, Drill}
use Rattle.letters_grammar.specs.Reading.{digit_first}
use Rattle.letters_grammar.proofs.LetterLaws.{Lettered, digit_yes}
use Rattle.letters_grammar.proofs.KindLaws.{lettered, text_short, text_long}
use Rattle.letters_grammar.proofs.StepLaws.{above, Stop, nothing, bracketed}
use Rattle.letters_grammar.proofs.Complete.{no_text, sequence_first}

head_same : {a b : ℕ} {xs ys : List ℕ} → a ∷ xs ≡ b ∷ ys → a ≡ b
head_same e = cc

tail_same : {a b : ℕ} {xs ys : List ℕ} → a ∷ xs ≡ b ∷ ys → xs ≡ ys
tail_same e = cc

never_nil : {X : Type 0} {b : ℕ} {xs : List ℕ} → [] ≡ b ∷ xs → X
never_nil e = never (cc)

no_digit : {X : Type 0} {xs ys : List ℕ} {b : ℕ} → digit_first xs ≡ false → xs ≡ b ∷ ys → is_digit b ≡ true → X
unfolding digit_first
no_digit {X} {xs} {ys} {b} h e d = let x : digit_first xs ≡ is_digit b = ap digit_first e in never (cc)

-- ---- letters and counts

letter_same : (l m : Letter) → letter_text l ≡ letter_text m → l ≡ m
unfolding letter_text
letter_same center center e = refl
letter_same center rim e = absurd (omega arith)
letter_same center non_hit e = absurd (omega arith)
letter_same rim center e = absurd (omega arith)
letter_same rim rim e = refl
letter_same rim non_hit e = absurd (omega arith)
letter_same non_hit center e = absurd (omega arith)
letter_same non_hit rim e = absurd (omega arith)
letter_same non_hit non_hit e = refl

-- how a count is written: not at all, with one digit, or with two
data Written (n : ℕ) : Type 0 where
  unwritten : n ≡ 1 → count_text n ≡ [] → Written n
  one : (u : ℕ) → is_digit u ≡ true → u ≡ n + 48 → count_text n ≡ u ∷ [] → Written n
  two : (u v : ℕ) → is_digit u ≡ true → is_digit v ≡ true → n + 528 ≡ 10 * u + v → count_text n ≡ u ∷ v ∷ [] → Written n

written : (n : ℕ) → Count n → Written n
written n c = go (eqb n 1) (ltb n 10) refl refl
  where
    go : (a b : Bool) → eqb n 1 ≡ a → ltb n 10 ≡ b → Written n
    go true b x y = let e : n ≡ 1 = eqb-true n 1 x in unwritten e (no_text e)
    go false true x y =
        let l : 2 ≤ n = above n 1 c.some (eqb-false n 1 x) in
        let h : n < 10 = ltb-true n 10 y in
        one (n + 48) (digit_yes (n + 48) (omega arith) (omega arith)) refl (text_short n l h)
    go false false x y =
        let h : 10 ≤ n = ltb-false n 10 y in
        two (n / 10 + 48) (n % 10 + 48) (digit_yes (n / 10 + 48) (omega arith) (omega (arith, c.few))) (digit_yes (n % 10 + 48) (omega arith) (omega arith))
        (omega arith) (text_long n h)

module _ {n k : ℕ} {x y : List ℕ} (h : digit_first x ≡ false) (g : digit_first y ≡ false) where
  counts_same : Written n → Written k → count_text n ++ x ≡ count_text k ++ y → (n ≡ k) × (x ≡ y)
  counts_same (unwritten a b) (unwritten c d) e = (omega arith, rw (b, d) at e)
  counts_same (unwritten a b) (one u w c d) e = let f : x ≡ u ∷ y = rw (b, d) at e in no_digit h f w
  counts_same (unwritten a b) (two u v w z c d) e = let f : x ≡ u ∷ v ∷ y = rw (b, d) at e in no_digit h f w
  counts_same (one u w a b) (unwritten c d) e = let f : u ∷ x ≡ y = rw (b, d) at e in no_digit g (sym f) w
  counts_same (one u w a b) (one u' w' c d) e =
      let f : u ∷ x ≡ u' ∷ y = rw (b, d) at e in
      (omega (arith, head_same f), tail_same f)
  counts_same (one u w a b) (two u' v w' z c d) e = let f : u ∷ x ≡ u' ∷ v ∷ y = rw (b, d) at e in no_digit h (tail_same f) z
  counts_same (two u v w z a b) (unwritten c d) e = let f : u ∷ v ∷ x ≡ y = rw (b, d) at e in no_digit g (sym f) w
  counts_same (two u v w z a b) (one u' w' c d) e = let f : u ∷ v ∷ x ≡ u' ∷ y = rw (b, d) at e in no_digit g (sym (tail_same f)) z
  counts_same (two u v w z a b) (two u' v' w' z' c d) e =
      let f : u ∷ v ∷ x ≡ u' ∷ v' ∷ y = rw (b, d) at e in
      (omega (arith, head_same f, head_same (tail_same f)), tail_same (tail_same f))

-- ---- what an item begins with

letter_byte : (l : Letter) → Lettered (letter_text l)
letter_byte l = lettered l (letter_text l) refl

letter_other : {X : Type 0} (l : Letter) {b : ℕ} → letter_text l ≡ b → (b ≡ 40) ⊎ ((b ≡ 41) ⊎ (b ≡ 126)) → X
letter_other l e o =
    absurd
    (⊎_elim (λ d. ⊎_elim (λ a. omega arith) (⊎_elim (λ a. omega arith) (λ a. omega arith)) o)
    (⊎_elim (λ d. ⊎_elim (λ a. omega arith) (⊎_elim (λ a. omega arith) (λ a. omega arith)) o)
    (λ d. ⊎_elim (λ a. omega arith) (⊎_elim (λ a. omega arith) (λ a. omega arith)) o))
    (letter_byte l))

-- a sequence ends where nothing follows, or a closing bracket
stop_first : {x : List ℕ} → Stop x → digit_first x ≡ false
unfolding digit_first is_digit
stop_first (nothing e) = rw e
stop_first (bracketed r e) = rw e

stop_item : {X : Type 0} {x : List ℕ} (j : Item) (z : List ℕ) → Stop x → x ≡ item_text j ++ z → X
unfolding item_text
stop_item (letter l n) z (nothing a) e = never_nil (sym a ∙ e)
stop_item (bracket j r n) z (nothing a) e = never_nil (sym a ∙ e)
stop_item (exchange j) z (nothing a) e = never_nil (sym a ∙ e)
stop_item (letter l n) z (bracketed r a) e = letter_other l (sym (head_same (sym a ∙ e))) (inr (inl refl))
stop_item (bracket j s n) z (bracketed r a) e = absurd (omega (arith, head_same (sym a ∙ e)))
stop_item (exchange j) z (bracketed r a) e = absurd (omega (arith, head_same (sym a ∙ e)))

-- ---- trees

abbrev ItemSame : Item → Type 0
ItemSame i = (j : Item) → ItemCounts j → (x y : List ℕ) → digit_first x ≡ false → digit_first y ≡ false → item_text i ++ x ≡ item_text j ++ y
    → (i ≡ j) × (x ≡ y)

abbrev SequenceSame : Sequence → Type 0
SequenceSame s = (r : Sequence) → Counts r → (x y : List ℕ) → Stop x → Stop y → sequence_text s ++ x ≡ sequence_text r ++ y → (s ≡ r) × (x ≡ y)

letters_same : (l : Letter) (n : ℕ) → Count n → ItemSame (letter l n)
unfolding item_text ItemCounts
letters_same l n c (letter m k) d x y h g e =
    let u = counts_same h g (written n c) (written k d) (tail_same e) in
    (rw (letter_same l m (head_same e), u.0), u.1)
letters_same l n c (bracket j r k) d x y h g e = letter_other l (head_same e) (inl refl)
letters_same l n c (exchange j) d x y h g e = letter_other l (head_same e) (inr (inr refl))

turns_same : (i : Item) → ItemSame i → ItemSame (exchange i)
unfolding item_text ItemCounts
turns_same i s (letter m k) d x y h g e = letter_other m (sym (head_same e)) (inr (inr refl))
turns_same i s (bracket j r k) d x y h g e = absurd (omega (arith, head_same e))
turns_same i s (exchange j) d x y h g e =
    let u = s j d x y h g (tail_same e) in
    (ap exchange u.0, u.1)

-- the bytes behind an opening bracket
inside : (i : Item) (s : Sequence) (n : ℕ) (x : List ℕ)
    → ((item_text i ++ sequence_text s) ++ (41 ∷ count_text n)) ++ x ≡ item_text i ++ (sequence_text s ++ (41 ∷ (count_text n ++ x)))
inside i s n x =
    append_assoc (item_text i ++ sequence_text s) (41 ∷ count_text n) x ∙ append_assoc (item_text i) (sequence_text s) (41 ∷ (count_text n ++ x))

brackets_same : (i : Item) (s : Sequence) (n : ℕ) → Count n → ItemSame i → SequenceSame s → ItemSame (bracket i s n)
unfolding item_text ItemCounts
brackets_same i s n c a b (letter m k) d x y h g e = letter_other m (sym (head_same e)) (inl refl)
brackets_same i s n c a b (exchange j) d x y h g e = absurd (omega (arith, head_same e))
brackets_same i s n c a b (bracket j r k) d x y h g e =
    let v : List ℕ = 41 ∷ (count_text n ++ x) in
    let w : List ℕ = 41 ∷ (count_text k ++ y) in
    let f : item_text i ++ (sequence_text s ++ v) ≡ item_text j ++ (sequence_text r ++ w) = sym (inside i s n x) ∙ tail_same e ∙ inside j r k y in
    let ev : digit_first v ≡ false = stop_first (bracketed (count_text n ++ x) refl) in
    let ew : digit_first w ≡ false = stop_first (bracketed (count_text k ++ y) refl) in
    let u = a j d.0.0 (sequence_text s ++ v) (sequence_text r ++ w) (sequence_first s v ev) (sequence_first r w ew) f in
    let t = b r d.0.1 v w (bracketed (count_text n ++ x) refl) (bracketed (count_text k ++ y) refl) u.1 in
    let z = counts_same h g (written n c) (written k d.1) (tail_same t.1) in
    (rw (u.0, t.0, z.0), z.1)

nothing_same : SequenceSame none
unfolding sequence_text
nothing_same none d x y h g e = (refl, e)
nothing_same (then j r) d x y h g e = stop_item j (sequence_text r ++ y) h (e ∙ append_assoc (item_text j) (sequence_text r) y)

then_same : (i : Item) (s : Sequence) → ItemSame i → SequenceSame s → SequenceSame (then i s)
unfolding sequence_text Counts
then_same i s a b none d x y h g e = stop_item i (sequence_text s ++ x) g (sym e ∙ append_assoc (item_text i) (sequence_text s) x)
then_same i s a b (then j r) d x y h g e =
    let f : item_text i ++ (sequence_text s ++ x) ≡ item_text j ++ (sequence_text r ++ y) =
    sym (append_assoc (item_text i) (sequence_text s) x) ∙ e ∙ append_assoc (item_text j) (sequence_text r) y in
    let u = a j d.0 (sequence_text s ++ x) (sequence_text r ++ y) (sequence_first s x (stop_first h)) (sequence_first r y (stop_first g)) f in
    let t = b r d.1 x y h g u.1 in
    (rw (u.0, t.0), t.1)

mutual
  unfolding ItemCounts

  item_same : (i : Item) → ItemCounts i → ItemSame i
  item_same (letter l n) c = letters_same l n c
  item_same (bracket i s n) c = brackets_same i s n c.1 (item_same i c.0.0) (sequence_same s c.0.1)
  item_same (exchange i) c = turns_same i (item_same i c)

  sequence_same : (s : Sequence) → Counts s → SequenceSame s
  sequence_same none c = nothing_same
  sequence_same (then i s) c = then_same i s (item_same i c.0) (sequence_same s c.1)

-- two trees with one text are one tree
pub one_tree : (s r : Sequence) → Counts s → Counts r → sequence_text s ≡ sequence_text r → s ≡ r
one_tree s r c d e = (sequence_same s c r d [] [] (nothing refl) (nothing refl) (rw (append-nil (sequence_text s), append-nil (sequence_text r)) e)).0

-- so a text has one list of objects
pub one_meaning : (t ks ls : List ℕ) → Drill t ks → Drill t ls → ks ≡ ls
one_meaning t ks ls x y =
    let e : x.tree ≡ y.tree = one_tree x.tree y.tree x.counts y.counts (x.written ∙ sym y.written) in
    sym x.means ∙ ap sequence_kinds e ∙ y.means
