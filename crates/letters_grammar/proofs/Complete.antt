-- Every text of the grammar within the limits is good, with its objects: the reading of an item's text, with anything behind it that begins with no
-- digit, goes on behind it with the item's objects added. By induction over the tree.
use mathlib.Core.Path.{◌≡◌, refl, subst, ◌∙◌}
use mathlib.Core.Bool.{Bool, true, false, not, ◌||◌, or-true}
use mathlib.Core.List.{List, [], ◌∷◌, ◌++◌, append_assoc, append-nil}
use Prim.Native.Nat.{ℕ, zero, suc, ◌+◌, ◌-◌, ◌*◌, ◌/◌, ◌%◌, ◌≤◌, ◌<◌}
use native.Mathlib.Nat.{suc-mul}
use native.Mathlib.Omega.{arith}
use borrow.Author.Tests.{ne_eqb, ltb-true, ltb-false, eqb-true, eqb-false}
use lib.Dec.{eqb, ltb}
use lib.ListN.{length, length-append, length-map}
use Rattle.letters_grammar.specs.Letters.{is_digit, exchanged_kind, exchanged_if}
use Rattle.letters_grammar.specs.Grammar.{Letter, center, rim, non_hit, Item, letter, bracket, exchange, Sequence, none, then, Count, ItemCounts, Counts}
use Rattle.letters_grammar.specs.Grammar.{letter_text, count_text, item_text, sequence_text, letter_kind, copies, item_kinds, sequence_kinds, ItemDepth, Depth}
use Rattle.letters_grammar.specs.Grammar.{Drill, DrillWithin}
use Rattle.letters_grammar.specs.Reading.{Bracket, need, free, after, tens, good}
use Rattle.letters_grammar.specs.Reading.{digit_first, exchanged, repeated, at_closing, ended, at_end, at_free, step, run, shorthand}
use Rattle.letters_grammar.proofs.LetterLaws.{digit_yes}
use Rattle.letters_grammar.proofs.ReadingLaws.{with_letter, objects-few, item_tilde, item_open, item_letter, free_close, after_none, after_tens}
use Rattle.letters_grammar.proofs.ReadingLaws.{after_one, tens_digit, count-few, run-on}
use Rattle.letters_grammar.proofs.KindLaws.{length-copies, length_if, length-letter, length-repeated, repeated_once, if_append, if_none, if_not}
use Rattle.letters_grammar.proofs.KindLaws.{letter-objects, bracket-objects, lettered, text_short, text_long}
use Rattle.letters_grammar.proofs.StepLaws.{above}

-- ---- a text begins with no digit

item_first : (i : Item) (x : List ℕ) → digit_first (item_text i ++ x) ≡ false
unfolding item_text letter_text digit_first is_digit
item_first (letter center n) x = refl
item_first (letter rim n) x = refl
item_first (letter non_hit n) x = refl
item_first (bracket i s n) x = refl
item_first (exchange i) x = refl

pub sequence_first : (s : Sequence) (x : List ℕ) → digit_first x ≡ false → digit_first (sequence_text s ++ x) ≡ false
unfolding sequence_text
sequence_first none x h = h
sequence_first (then i s) x h = rw (append_assoc (item_text i) (sequence_text s) x) (item_first i (sequence_text s ++ x))

-- ---- a count

pub no_text : {n : ℕ} → n ≡ 1 → count_text n ≡ []
unfolding count_text
no_text e = rw e

module _ (M D : ℕ) where
  no_count : (bs : List ℕ) → digit_first bs ≡ false → (p : ℕ) (fs : List Bracket) (i : ℕ) (ks : List ℕ)
      → run M D bs p fs (after i) ks ≡ run M D bs p fs free ks
  unfolding run step at_end digit_first
  no_count [] h p fs i ks = refl
  no_count (b ∷ bs) h p fs i ks = rw (after_none M D (digit_first bs) b i fs ks h)

  module _ (n : ℕ) (c : Count n) (bs : List ℕ) (h : digit_first bs ≡ false) (p : ℕ) (fs : List Bracket) (i : ℕ) (ks : List ℕ)
      (small : length (repeated n i ks) ≤ M) where
    abbrev Counted : List ℕ → Type 0
    Counted t = run M D (t ++ bs) p fs (after i) ks ≡ run M D bs (p + length t) fs free (repeated n i ks)

    one_digit : 2 ≤ n → n < 10 → Counted ((n + 48) ∷ [])
    unfolding step
    one_digit l g =
        let x : n + 48 - 48 ≡ n = omega arith in
        let less : (eqb (n + 48) 49 || digit_first bs) ≡ false = rw (ne_eqb (n + 48) 49 (λ e. omega arith), h) in
        let a = after_one M D (digit_first bs) (n + 48) i fs ks (digit_yes (n + 48) (omega arith) (omega arith)) (λ e. omega arith) less in
        run-on M D (n + 48) bs p fs (after i) ks {gs = fs} {k = free} {ls = repeated n i ks} (a ∙ rw x (count-few M D n i fs ks small))

    two_digits : 10 ≤ n → Counted ((n / 10 + 48) ∷ (n % 10 + 48) ∷ [])
    unfolding step digit_first
    two_digits l =
        let v : ℕ = n % 10 + 48 in
        let u : ℕ = n / 10 + 48 in
        let x : 10 * (u - 48) + (v - 48) ≡ n = omega arith in
        let y : p + 1 + 1 ≡ p + 2 = omega arith in
        let d : is_digit v ≡ true = digit_yes v (omega arith) (omega arith) in
        let more : (eqb u 49 || is_digit v) ≡ true = rw d (or-true (eqb u 49)) in
        let a = after_tens M D (is_digit v) u i fs ks (digit_yes u (omega arith) (omega (arith, c.few))) (λ e. omega arith) more in
        let w = tens_digit M D v i (u - 48) fs ks d in
        run-on M D u (v ∷ bs) p fs (after i) ks a
        ∙ run-on M D v bs (p + 1) fs (tens i (u - 48)) ks {gs = fs} {k = free} {ls = repeated n i ks} (w ∙ rw x (count-few M D n i fs ks small))
        ∙ rw y

    none_written : n ≡ 1 → Counted []
    none_written e =
        let z : p + 0 ≡ p = omega arith in
        no_count bs h p fs i ks ∙ rw (z, e, repeated_once i ks)

    count_reads : Counted (count_text n)
    count_reads = go (eqb n 1) (ltb n 10) refl refl
      where
        go : (a b : Bool) → eqb n 1 ≡ a → ltb n 10 ≡ b → Counted (count_text n)
        go true b x y = let e : n ≡ 1 = eqb-true n 1 x in rw (no_text e) (none_written e)
        go false true x y =
            let l : 2 ≤ n = above n 1 c.some (eqb-false n 1 x) in
            rw (text_short n l (ltb-true n 10 y)) (one_digit l (ltb-true n 10 y))
        go false false x y = rw (text_long n (ltb-false n 10 y)) (two_digits (ltb-false n 10 y))

  -- ---- an item and a sequence

  abbrev ItemReads : Item → Type 0
  ItemReads i = (bs : List ℕ) → digit_first bs ≡ false → (p : ℕ) (fs : List Bracket) (q : Bool) (ks : List ℕ) → ItemDepth i (D - length fs)
      → length ks + length (item_kinds i) ≤ M
      → run M D (item_text i ++ bs) p fs (need q) ks ≡ run M D bs (p + length (item_text i)) fs free (ks ++ exchanged_if q (item_kinds i))

  abbrev SequenceReads : Sequence → Type 0
  SequenceReads s = (bs : List ℕ) → digit_first bs ≡ false → (p : ℕ) (fs : List Bracket) (ks : List ℕ) → Depth s (D - length fs)
      → length ks + length (sequence_kinds s) ≤ M
      → run M D (sequence_text s ++ bs) p fs free ks
      ≡ run M D bs (p + length (sequence_text s)) fs free (ks ++ exchanged_if (exchanged fs) (sequence_kinds s))

  letter_reads : (l : Letter) (n : ℕ) → Count n → ItemReads (letter l n)
  unfolding item_text item_kinds step
  letter_reads l n c bs h p fs q ks w small =
      let b : ℕ = letter_text l in
      let ls : List ℕ = with_letter q b ks in
      let ln : length (copies n (letter_kind l ∷ [])) ≡ n * 1 = length-copies n (letter_kind l ∷ []) in
      let lk : length ls ≡ length ks + 1 = length-letter q b ks in
      let d : length ls - length ks ≡ 1 = omega arith in
      let e : length (repeated n (length ks) ls) ≡ length ks + n * 1 = length-repeated n (length ks) ls (omega arith) ∙ rw d in
      let z : p + 1 + length (count_text n) ≡ p + suc (length (count_text n)) = omega arith in
      run-on M D b (count_text n ++ bs) p fs (need q) ks
      (item_letter M D b fs q ks (lettered l b refl) ∙ objects-few M D fs (after (length ks)) ls (omega (arith, c.some)))
      ∙ count_reads n c bs h (p + 1) fs (length ks) ls (omega arith)
      ∙ rw (letter-objects q l b n ks refl, z)

  exchange_reads : (i : Item) → ItemReads i → ItemReads (exchange i)
  unfolding item_text item_kinds ItemDepth step
  exchange_reads i r bs h p fs q ks w small =
      let z : p + 1 + length (item_text i) ≡ p + suc (length (item_text i)) = omega arith in
      run-on M D 126 (item_text i ++ bs) p fs (need q) ks (item_tilde M D 126 fs q ks refl)
      ∙ r bs h (p + 1) fs (not q) ks w (omega (arith, length-map (item_kinds i) exchanged_kind))
      ∙ rw (if_not q (item_kinds i), z)

  at_least : (n d : ℕ) → 1 ≤ n → d ≤ n * d
  at_least zero d h = absurd (omega arith)
  at_least (suc n) d h = omega (arith, suc-mul n d)

  module _ (i : Item) (s : Sequence) (n : ℕ) (c : Count n) (ri : ItemReads i) (rs : SequenceReads s) (bs : List ℕ) (h : digit_first bs ≡ false) (p : ℕ)
      (fs : List Bracket) (q : Bool) (ks : List ℕ) (deep : 1 ≤ D - length fs) (wi : ItemDepth i (D - length fs - 1)) (ws : Depth s (D - length fs - 1))
      (small : length ks + length (copies n (item_kinds i ++ sequence_kinds s)) ≤ M) where
    abbrev inner : List Bracket
    inner = record { start = length ks; swapped = q } ∷ fs

    deeper : D - length fs - 1 ≡ D - length inner
    deeper = omega arith

    abbrev both : List ℕ
    both = item_kinds i ++ sequence_kinds s

    all : length (copies n both) ≡ n * length both
    all = length-copies n both

    less : length ks + length both ≤ M
    less = omega (arith, all, at_least n (length both) c.some)

    abbrev tail : List ℕ
    tail = 41 ∷ (count_text n ++ bs)

    abbrev after_item : List ℕ
    after_item = ks ++ exchanged_if q (item_kinds i)

    abbrev after_all : List ℕ
    after_all = after_item ++ exchanged_if q (sequence_kinds s)

    parts : length both ≡ length (item_kinds i) + length (sequence_kinds s)
    parts = length-append (item_kinds i) (sequence_kinds s)

    long_item : length after_item ≡ length ks + length (item_kinds i)
    long_item = length-append ks (exchanged_if q (item_kinds i)) ∙ rw (length_if q (item_kinds i))

    long_all : length after_all ≡ length ks + length both
    long_all = length-append after_item (exchanged_if q (sequence_kinds s)) ∙ omega (arith, long_item, length_if q (sequence_kinds s), parts)

    fits : length (repeated n (length ks) after_all) ≤ M
    fits =
        let d : length after_all - length ks ≡ length both = omega (arith, long_all) in
        rw (length-repeated n (length ks) after_all (omega (arith, long_all)), d) (omega (arith, all))

    tail_first : digit_first tail ≡ false
    unfolding digit_first is_digit
    tail_first = refl

    regroup : ((item_text i ++ sequence_text s) ++ (41 ∷ count_text n)) ++ bs ≡ item_text i ++ (sequence_text s ++ tail)
    regroup = append_assoc (item_text i ++ sequence_text s) (41 ∷ count_text n) bs ∙ append_assoc (item_text i) (sequence_text s) tail

    abbrev to : ℕ
    to = p + 1 + length (item_text i) + length (sequence_text s)

    to-end : to + 1 + length (count_text n) ≡ p + suc (length ((item_text i ++ sequence_text s) ++ (41 ∷ count_text n)))
    to-end = omega (arith, length-append (item_text i ++ sequence_text s) (41 ∷ count_text n), length-append (item_text i) (sequence_text s))

    bracket_reads : run M D (item_text (bracket i s n) ++ bs) p fs (need q) ks
        ≡ run M D bs (p + length (item_text (bracket i s n))) fs free (ks ++ exchanged_if q (item_kinds (bracket i s n)))
    unfolding item_text item_kinds step exchanged at_closing
    bracket_reads =
        run-on M D 40 (((item_text i ++ sequence_text s) ++ (41 ∷ count_text n)) ++ bs) p fs (need q) ks (item_open M D 40 fs q ks refl (omega arith))
        ∙ rw regroup
        (ri (sequence_text s ++ tail) (sequence_first s tail tail_first) (p + 1) inner q ks (subst (ItemDepth i) deeper wi) (omega (arith, less, parts)))
        ∙ rs tail tail_first (p + 1 + length (item_text i)) inner after_item (subst (Depth s) deeper ws) (omega (arith, long_item, less, parts))
        ∙ run-on M D 41 (count_text n ++ bs) to inner free after_all (free_close M D 41 inner after_all refl)
        ∙ count_reads n c bs h (to + 1) fs (length ks) after_all fits
        ∙ rw (bracket-objects q n ks (item_kinds i) (sequence_kinds s), to-end)

  none_reads : SequenceReads none
  unfolding sequence_text sequence_kinds
  none_reads bs h p fs ks w small =
      let z : p + 0 ≡ p = omega arith in
      rw (z, if_none (exchanged fs), append-nil ks)

  -- an item begins with no closing bracket
  item_free : (i : Item) (x : List ℕ) (p : ℕ) (fs : List Bracket) (ks : List ℕ)
      → run M D (item_text i ++ x) p fs free ks ≡ run M D (item_text i ++ x) p fs (need (exchanged fs)) ks
  unfolding item_text letter_text run step at_free
  item_free (letter center n) x p fs ks = refl
  item_free (letter rim n) x p fs ks = refl
  item_free (letter non_hit n) x p fs ks = refl
  item_free (bracket i s n) x p fs ks = refl
  item_free (exchange i) x p fs ks = refl

  then_reads : (i : Item) (s : Sequence) → ItemReads i → SequenceReads s → SequenceReads (then i s)
  unfolding sequence_text sequence_kinds Depth
  then_reads i s ri rs bs h p fs ks w small =
      let q : Bool = exchanged fs in
      let ls : List ℕ = ks ++ exchanged_if q (item_kinds i) in
      let li : length ls ≡ length ks + length (item_kinds i) = length-append ks (exchanged_if q (item_kinds i)) ∙ rw (length_if q (item_kinds i)) in
      let both : length (item_kinds i ++ sequence_kinds s) ≡ length (item_kinds i) + length (sequence_kinds s) =
      length-append (item_kinds i) (sequence_kinds s) in
      let z : p + length (item_text i) + length (sequence_text s) ≡ p + length (item_text i ++ sequence_text s) =
      omega (arith, length-append (item_text i) (sequence_text s)) in
      rw (append_assoc (item_text i) (sequence_text s) bs) (item_free i (sequence_text s ++ bs) p fs ks)
      ∙ ri (sequence_text s ++ bs) (sequence_first s bs h) p fs q ks w.0 (omega arith)
      ∙ rs bs h (p + length (item_text i)) fs ls w.1 (omega arith)
      ∙ rw (z, if_append q (item_kinds i) (sequence_kinds s), append_assoc ks (exchanged_if q (item_kinds i)) (exchanged_if q (sequence_kinds s)))

  mutual
    unfolding ItemCounts ItemDepth item_kinds

    item_reads : (i : Item) → ItemCounts i → ItemReads i
    item_reads (letter l n) c = letter_reads l n c
    item_reads (bracket i s n) c = λ bs h p fs q ks w small.
        bracket_reads i s n c.1 (item_reads i c.0.0) (sequence_reads s c.0.1) bs h p fs q ks w.0 w.1.0 w.1.1 small
    item_reads (exchange i) c = exchange_reads i (item_reads i c)

    sequence_reads : (s : Sequence) → Counts s → SequenceReads s
    sequence_reads none c = none_reads
    sequence_reads (then i s) c = then_reads i s (item_reads i c.0) (sequence_reads s c.1)

  -- ---- a whole text

  whole_reads : (s : Sequence) → Counts s → Depth s D → length (sequence_kinds s) ≤ M → shorthand M D (sequence_text s) ≡ good (sequence_kinds s)
  unfolding shorthand exchanged exchanged_if run at_end ended digit_first
  whole_reads s c w small =
      let d : D ≡ D - 0 = omega arith in
      let e : run M D (sequence_text s ++ []) 0 [] free [] ≡ good (sequence_kinds s) = sequence_reads s c [] refl 0 [] [] (subst (Depth s) d w) (omega arith) in
      rw (append-nil (sequence_text s)) at e

  pub complete : (t ks : List ℕ) → DrillWithin M D t ks → shorthand M D t ≡ good ks
  complete t ks x =
      let d = x.drill in
      let small : length (sequence_kinds d.tree) ≤ M = rw d.means x.few in
      rw (d.written, d.means) at (whole_reads d.tree d.counts x.flat small)

-- ---- every text of the grammar is within some limits

unfoldable mutual
  item_deep : Item → ℕ
  item_deep (letter l n) = 0
  item_deep (bracket i s n) = suc (item_deep i + deep s)
  item_deep (exchange i) = item_deep i

  deep : Sequence → ℕ
  deep none = 0
  deep (then i s) = item_deep i + deep s

mutual
  unfolding item_deep ItemDepth

  item_within : (i : Item) (d : ℕ) → item_deep i ≤ d → ItemDepth i d
  item_within (letter l n) d h = tt
  item_within (bracket i s n) d h = (omega arith, (item_within i (d - 1) (omega arith), within s (d - 1) (omega arith)))
  item_within (exchange i) d h = item_within i d h

  within : (s : Sequence) (d : ℕ) → deep s ≤ d → Depth s d
  within none d h = tt
  within (then i s) d h = (item_within i d (omega arith), within s d (omega arith))

-- larger ones than M and D among them
pub record Roomy (M D : ℕ) (t ks : List ℕ) : Type 0 where
  pub objects : ℕ
  pub depth : ℕ
  pub wider : M ≤ objects
  pub deeper : D ≤ depth
  pub reads : shorthand objects depth t ≡ good ks

pub roomy : (M D : ℕ) (t ks : List ℕ) → Drill t ks → Roomy M D t ks
roomy M D t ks x =
    let N : ℕ = M + length ks in
    let E : ℕ = D + deep x.tree in
    record {
      objects = N;
      depth = E;
      wider = omega arith;
      deeper = omega arith;
      reads = complete N E t ks (record { drill = x; few = omega arith; flat = within x.tree E (omega arith) });
    }
