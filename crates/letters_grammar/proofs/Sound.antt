-- What the reading finds good is a text of the grammar within the limits, with its objects. Where an item must follow, or a sequence may, and the whole is
-- good, one stands there, and the reading of what is behind it is good from there: by induction over the bytes that are left.
use mathlib.Core.Path.{◌≡◌, refl, sym, ap, subst, ◌∙◌}
use mathlib.Core.Bool.{Bool, true, false, not, ◌||◌}
use mathlib.Core.List.{List, [], ◌∷◌, ◌++◌, append_assoc, append-nil}
use Prim.Native.Nat.{ℕ, zero, suc, ◌+◌, ◌-◌, ◌*◌, ◌≤◌, ◌<◌}
use native.Mathlib.Omega.{arith}
use borrow.Author.Tests.{eqb-true, eqb-false, leb-true, leb-false}
use lib.Dec.{eqb, leb}
use lib.ListN.{length, length-append}
use Rattle.std.proofs.lemmas.Bool.{or_parts}
use Rattle.lent.proofs.NeverLaws.{never}
use Rattle.letters_grammar.specs.Letters.{is_digit, exchanged_if}
use Rattle.letters_grammar.specs.Grammar.{Letter, Item, letter, bracket, exchange, Sequence, none, then, Count, ItemCounts, Counts, letter_text, count_text}
use Rattle.letters_grammar.specs.Grammar.{item_text, sequence_text, item_kinds, sequence_kinds, ItemDepth, Depth, DrillWithin}
use Rattle.letters_grammar.specs.Reading.{Bracket, Mode, need, free, after, tens, moves, refuses, good, refused}
use Rattle.letters_grammar.specs.Reading.{digit_first, exchanged, repeated, at_closing, ended, at_end, at_objects, at_count, step, run, shorthand}
use Rattle.letters_grammar.proofs.LetterLaws.{digit_range}
use Rattle.letters_grammar.proofs.ReadingLaws.{with_letter, item_tilde, item_deep_lem, item_open, item_letter, item_other, free_item, free_close}
use Rattle.letters_grammar.proofs.ReadingLaws.{after_none, after_zero, after_tens, after_one, tens_digit, tens_none, run-on, run_stops}
use Rattle.letters_grammar.proofs.KindLaws.{repeated_once, if_append, if_none, if_not, one_text, two_text, letter-objects, bracket-objects, lettered}
use Rattle.letters_grammar.proofs.StepLaws.{above, Byte, tilde, opening, note, byte_of, Stop, nothing, bracketed, Adding, adding_of}
use Rattle.letters_grammar.proofs.StepLaws as S
use Rattle.letters_grammar.proofs.BoundLaws.{good_few}

pub no_good : {X : Type 0} {n p : ℕ} {ks : List ℕ} → refused n p ≡ good ks → X
no_good e = never (cc)

module _ (M D : ℕ) where
  -- ---- a byte of a good text moves on

  module _ (b : ℕ) (bs : List ℕ) (p : ℕ) (fs : List Bracket) (m : Mode) (ks out : List ℕ) (e : run M D (b ∷ bs) p fs m ks ≡ good out) where
    good_on : {gs : List Bracket} {k : Mode} {ls : List ℕ} → step M D (digit_first bs) b fs m ks ≡ moves gs k ls → run M D bs (p + 1) gs k ls ≡ good out
    good_on x = sym (run-on M D b bs p fs m ks x) ∙ e

    good_stops : {X : Type 0} {n : ℕ} → step M D (digit_first bs) b fs m ks ≡ refuses n → X
    good_stops x = no_good (sym (run_stops M D b bs p fs m ks x) ∙ e)

    good_added : (k : Mode) (ls : List ℕ) → step M D (digit_first bs) b fs m ks ≡ at_objects M D fs k ls → run M D bs (p + 1) fs k ls ≡ good out
    good_added k ls x = go (adding_of M D fs k ls)
      where
        go : Adding M D fs k ls → run M D bs (p + 1) fs k ls ≡ good out
        go (S.room l f) = good_on (x ∙ f M D (omega arith))
        go (S.full l f) = good_stops (x ∙ f)

  -- ---- a count, or none

  record CountFound (bs : List ℕ) (fs : List Bracket) (i : ℕ) (ks out : List ℕ) : Type 0 where
    pub times : ℕ
    pub counts : Count times
    pub rest : List ℕ
    pub written : bs ≡ count_text times ++ rest
    pub place : ℕ
    pub on : run M D rest place fs free (repeated times i ks) ≡ good out

  record SecondFound (bs : List ℕ) (fs : List Bracket) (i t p : ℕ) (ks out : List ℕ) : Type 0 where
    pub digit : ℕ
    pub low : 48 ≤ digit
    pub high : digit < 58
    pub rest : List ℕ
    pub written : bs ≡ digit ∷ rest
    pub on : run M D rest (p + 1) fs free (repeated (10 * t + (digit - 48)) i ks) ≡ good out

  second-found : (bs : List ℕ) (p : ℕ) (fs : List Bracket) (i t : ℕ) (ks out : List ℕ) → run M D bs p fs (tens i t) ks ≡ good out
      → SecondFound bs fs i t p ks out
  unfolding run step at_end at_count
  second-found [] p fs i t ks out e = no_good e
  second-found (d ∷ ds) p fs i t ks out e = go (is_digit d) refl
    where
      go : (x : Bool) → is_digit d ≡ x → SecondFound (d ∷ ds) fs i t p ks out
      go true h = record {
        digit = d;
        low = (digit_range d h).0;
        high = (digit_range d h).1;
        rest = ds;
        written = refl;
        on = good_added d ds p fs (tens i t) ks out e free (repeated (10 * t + (d - 48)) i ks) (tens_digit M D d i t fs ks h);
      }
      go false h = good_stops d ds p fs (tens i t) ks out e (tens_none M D d i t fs ks h)

  module _ (b : ℕ) (bs : List ℕ) (p : ℕ) (fs : List Bracket) (i : ℕ) (ks out : List ℕ) (e : run M D (b ∷ bs) p fs (after i) ks ≡ good out)
      (d : is_digit b ≡ true) (z : b ≡ 48 → ⊥) where
    low : 49 ≤ b
    low = above b 48 (digit_range b d).0 z

    two_digits : (eqb b 49 || digit_first bs) ≡ true → CountFound (b ∷ bs) fs i ks out
    unfolding step
    two_digits m =
        let s = second-found bs (p + 1) fs i (b - 48) ks out (good_on b bs p fs (after i) ks out e (after_tens M D (digit_first bs) b i fs ks d z m)) in
        let h : b < 58 = (digit_range b d).1 in
        let l : 49 ≤ b = low in
        record {
          times = 10 * (b - 48) + (s.digit - 48);
          counts = record { some = omega (arith, s.low, s.high); few = omega (arith, s.low, s.high) };
          rest = s.rest;
          written = rw (two_text b s.digit l h s.low s.high) (ap (λ (x : List ℕ). b ∷ x) s.written);
          place = p + 1 + 1;
          on = s.on;
        }

    one_digit : (eqb b 49 || digit_first bs) ≡ false → CountFound (b ∷ bs) fs i ks out
    unfolding step at_count
    one_digit m =
        let h : b < 58 = (digit_range b d).1 in
        let l : 50 ≤ b = above b 49 low (eqb-false b 49 (or_parts (eqb b 49) (digit_first bs) m).0) in
        record {
          times = b - 48;
          counts = record { some = omega arith; few = omega arith };
          rest = bs;
          written = rw (one_text b l h);
          place = p + 1;
          on = good_added b bs p fs (after i) ks out e free (repeated (b - 48) i ks) (after_one M D (digit_first bs) b i fs ks d z m);
        }

  none_found : (bs : List ℕ) (p : ℕ) (fs : List Bracket) (i : ℕ) (ks out : List ℕ) → run M D bs p fs free ks ≡ good out → CountFound bs fs i ks out
  unfolding count_text
  none_found bs p fs i ks out e = record {
    times = 1;
    counts = record { some = omega arith; few = omega arith };
    rest = bs;
    written = refl;
    place = p;
    on = rw (repeated_once i ks) e;
  }

  count-found : (bs : List ℕ) (p : ℕ) (fs : List Bracket) (i : ℕ) (ks out : List ℕ) → run M D bs p fs (after i) ks ≡ good out → CountFound bs fs i ks out
  unfolding run step at_end
  count-found [] p fs i ks out e = none_found [] p fs i ks out e
  count-found (b ∷ bs) p fs i ks out e = go (is_digit b) refl
    where
      digits : is_digit b ≡ true → (b ≡ 48 → ⊥) → (m : Bool) → (eqb b 49 || digit_first bs) ≡ m → CountFound (b ∷ bs) fs i ks out
      digits d z true m = two_digits b bs p fs i ks out e d z m
      digits d z false m = one_digit b bs p fs i ks out e d z m

      leading : is_digit b ≡ true → (z : Bool) → eqb b 48 ≡ z → CountFound (b ∷ bs) fs i ks out
      leading d true z = good_stops b bs p fs (after i) ks out e (after_zero M D (digit_first bs) b i fs ks (eqb-true b 48 z))
      leading d false z = digits d (eqb-false b 48 z) (eqb b 49 || digit_first bs) refl

      go : (d : Bool) → is_digit b ≡ d → CountFound (b ∷ bs) fs i ks out
      go true d = leading d (eqb b 48) refl
      go false d = none_found (b ∷ bs) p fs i ks out (rw (after_none M D (digit_first bs) b i fs ks d) at e)

  -- ---- an item and a sequence

  record ItemFound (bs : List ℕ) (fs : List Bracket) (q : Bool) (ks out : List ℕ) : Type 0 where
    pub item : Item
    pub counts : ItemCounts item
    pub flat : ItemDepth item (D - length fs)
    pub rest : List ℕ
    pub written : bs ≡ item_text item ++ rest
    pub shorter : length rest < length bs
    pub place : ℕ
    pub on : run M D rest place fs free (ks ++ exchanged_if q (item_kinds item)) ≡ good out

  record SequenceFound (bs : List ℕ) (fs : List Bracket) (ks out : List ℕ) : Type 0 where
    pub items : Sequence
    pub counts : Counts items
    pub flat : Depth items (D - length fs)
    pub rest : List ℕ
    pub written : bs ≡ sequence_text items ++ rest
    pub shorter : length rest ≤ length bs
    pub place : ℕ
    pub on : run M D rest place fs free (ks ++ exchanged_if (exchanged fs) (sequence_kinds items)) ≡ good out
    pub stop : Stop rest

  abbrev ItemsBelow : ℕ → Type 0
  ItemsBelow n = (bs : List ℕ) → 2 * length bs ≤ n → (p : ℕ) (fs : List Bracket) (q : Bool) (ks out : List ℕ)
      → run M D bs p fs (need q) ks ≡ good out → ItemFound bs fs q ks out

  abbrev SequencesBelow : ℕ → Type 0
  SequencesBelow n = (bs : List ℕ) → 2 * length bs + 1 ≤ n → (p : ℕ) (fs : List Bracket) (ks out : List ℕ)
      → run M D bs p fs free ks ≡ good out → SequenceFound bs fs ks out

  -- a bracket's text: the item, the sequence, the closing bracket and the count behind one another
  bracketed_text : {b : ℕ} {bs xs ys zs : List ℕ} → b ≡ 40 → (i t v rest : List ℕ) → bs ≡ i ++ xs → xs ≡ t ++ ys → ys ≡ 41 ∷ zs → zs ≡ v ++ rest
      → b ∷ bs ≡ (40 ∷ ((i ++ t) ++ (41 ∷ v))) ++ rest
  bracketed_text o i t v rest e f g h =
      rw (o, e, f, g, h) (ap (λ (z : List ℕ). 40 ∷ z) (sym (append_assoc (i ++ t) (41 ∷ v) rest ∙ append_assoc i t (41 ∷ (v ++ rest)))))

  longer : (xs ys zs : List ℕ) → xs ≡ ys ++ zs → length zs ≤ length xs
  longer xs ys zs e = omega (arith, ap length e, length-append ys zs)

  module _ (n : ℕ) (ih : ItemsBelow n) (is : SequencesBelow n) (b : ℕ) (bs : List ℕ) (h : 2 * length (b ∷ bs) ≤ suc n) (p : ℕ) (fs : List Bracket)
      (q : Bool) (ks out : List ℕ) (e : run M D (b ∷ bs) p fs (need q) ks ≡ good out) where
    turned_found : b ≡ 126 → ItemFound (b ∷ bs) fs q ks out
    unfolding item_text item_kinds ItemCounts ItemDepth step
    turned_found x =
        let f = ih bs (omega arith) (p + 1) fs (not q) ks out (good_on b bs p fs (need q) ks out e (item_tilde M D b fs q ks x)) in
        record {
          item = exchange f.item;
          counts = f.counts;
          flat = f.flat;
          rest = f.rest;
          written = ap (λ (z : ℕ). z ∷ bs) x ∙ ap (λ (z : List ℕ). 126 ∷ z) f.written;
          shorter = omega (arith, f.shorter);
          place = f.place;
          on = rw (← if_not q (item_kinds f.item)) f.on;
        }

    letter-found : (l : Letter) → b ≡ letter_text l → ItemFound (b ∷ bs) fs q ks out
    unfolding item_text item_kinds ItemCounts ItemDepth step
    letter-found l x =
        let a = good_added b bs p fs (need q) ks out e (after (length ks)) (with_letter q b ks) (item_letter M D b fs q ks (lettered l b x)) in
        let c = count-found bs (p + 1) fs (length ks) (with_letter q b ks) out a in
        record {
          item = letter l c.times;
          counts = c.counts;
          flat = tt;
          rest = c.rest;
          written = ap (λ (z : ℕ). z ∷ bs) x ∙ ap (λ (z : List ℕ). letter_text l ∷ z) c.written;
          shorter = omega (arith, longer bs (count_text c.times) c.rest c.written);
          place = c.place;
          on = rw (← letter-objects q l b c.times ks x) c.on;
        }

    abbrev inner : List Bracket
    inner = record { start = length ks; swapped = q } ∷ fs

    abbrev held : ItemFound bs inner q ks out → List ℕ
    held f = ks ++ exchanged_if q (item_kinds f.item)

    closed_found : b ≡ 40 → length fs < D → (f : ItemFound bs inner q ks out) → (g : SequenceFound f.rest inner (held f) out) → (r : List ℕ)
        → g.rest ≡ 41 ∷ r → ItemFound (b ∷ bs) fs q ks out
    unfolding item_text item_kinds ItemCounts ItemDepth exchanged step at_closing
    closed_found x d f g r y =
        let k : List ℕ = held f ++ exchanged_if q (sequence_kinds g.items) in
        let u : run M D (41 ∷ r) g.place inner free k ≡ good out = rw y at g.on in
        let c = count-found r (g.place + 1) fs (length ks) k out (good_on 41 r g.place inner free k out u (free_close M D 41 inner k refl)) in
        let m : D - length inner ≡ D - length fs - 1 = omega arith in
        record {
          item = bracket f.item g.items c.times;
          counts = ((f.counts, g.counts), c.counts);
          flat = (omega arith, (subst (ItemDepth f.item) m f.flat, subst (Depth g.items) m g.flat));
          rest = c.rest;
          written =
              bracketed_text x (item_text f.item) (sequence_text g.items) (count_text c.times) c.rest f.written g.written y c.written;
          shorter = omega (arith, longer r (count_text c.times) c.rest c.written, f.shorter, g.shorter, ap length y);
          place = c.place;
          on = rw (← bracket-objects q c.times ks (item_kinds f.item) (sequence_kinds g.items)) c.on;
        }

    bracket-found : b ≡ 40 → ItemFound (b ∷ bs) fs q ks out
    unfolding exchanged run at_end ended step
    bracket-found x = go (leb D (length fs)) refl
      where
        stopped : length fs < D → (f : ItemFound bs inner q ks out) → (g : SequenceFound f.rest inner (held f) out) → Stop g.rest
            → ItemFound (b ∷ bs) fs q ks out
        stopped d f g (bracketed r y) = closed_found x d f g r y
        stopped d f g (nothing y) = no_good (rw y at g.on)

        go : (z : Bool) → leb D (length fs) ≡ z → ItemFound (b ∷ bs) fs q ks out
        go true g = good_stops b bs p fs (need q) ks out e (item_deep_lem M D b fs q ks x (leb-true _ _ g))
        go false g =
            let d : length fs < D = leb-false _ _ g in
            let f = ih bs (omega arith) (p + 1) inner q ks out (good_on b bs p fs (need q) ks out e (item_open M D b fs q ks x d)) in
            let s = is f.rest (omega (arith, f.shorter)) f.place inner (held f) out f.on in
            stopped d f s s.stop

    item_step : ItemFound (b ∷ bs) fs q ks out
    unfolding step
    item_step = go (byte_of b)
      where
        go : Byte b → ItemFound (b ∷ bs) fs q ks out
        go (tilde x) = turned_found x
        go (opening x) = bracket-found x
        go (note l x) = letter-found l x
        go (S.wrong x y z) = good_stops b bs p fs (need q) ks out e (item_other M D b fs q ks x y z)

  nothing_yet : (q : Bool) (ks : List ℕ) → ks ++ exchanged_if q [] ≡ ks
  nothing_yet q ks = rw (if_none q) (append-nil ks)

  joined : (i t zs : List ℕ) {xs ys : List ℕ} → xs ≡ i ++ ys → ys ≡ t ++ zs → xs ≡ (i ++ t) ++ zs
  joined i t zs e f = e ∙ rw f (sym (append_assoc i t zs))

  -- a sequence of no items
  empty_found : (bs : List ℕ) (p : ℕ) (fs : List Bracket) (ks out : List ℕ) → run M D bs p fs free ks ≡ good out → Stop bs → SequenceFound bs fs ks out
  unfolding sequence_text sequence_kinds Counts Depth
  empty_found bs p fs ks out e z = record {
    items = none;
    counts = tt;
    flat = tt;
    rest = bs;
    written = refl;
    shorter = omega arith;
    place = p;
    on = rw (nothing_yet (exchanged fs) ks) e;
    stop = z;
  }

  sequence_step : (n : ℕ) → ItemsBelow n → SequencesBelow n → (bs : List ℕ) → 2 * length bs + 1 ≤ suc n → (p : ℕ) (fs : List Bracket) (ks out : List ℕ)
      → run M D bs p fs free ks ≡ good out → SequenceFound bs fs ks out
  unfolding sequence_text sequence_kinds Counts Depth run step
  sequence_step n ih is [] h p fs ks out e = empty_found [] p fs ks out e (nothing refl)
  sequence_step n ih is (b ∷ bs) h p fs ks out e = go (eqb b 41) refl
    where
      go : (z : Bool) → eqb b 41 ≡ z → SequenceFound (b ∷ bs) fs ks out
      go true g = empty_found (b ∷ bs) p fs ks out e (bracketed bs (ap (λ (z : ℕ). z ∷ bs) (eqb-true b 41 g)))
      go false g =
          let q : Bool = exchanged fs in
          let f = ih (b ∷ bs) (omega arith) p fs q ks out (rw (free_item M D b fs ks (eqb-false b 41 g)) at e) in
          let s = is f.rest (omega (arith, f.shorter)) f.place fs (ks ++ exchanged_if q (item_kinds f.item)) out f.on in
          record {
            items = then f.item s.items;
            counts = (f.counts, s.counts);
            flat = (f.flat, s.flat);
            rest = s.rest;
            written = joined (item_text f.item) (sequence_text s.items) s.rest f.written s.written;
            shorter = omega (arith, f.shorter, s.shorter);
            place = s.place;
            on =
                rw (
                  if_append q (item_kinds f.item) (sequence_kinds s.items),
                  ← append_assoc ks (exchanged_if q (item_kinds f.item)) (exchanged_if q (sequence_kinds s.items)),
                )
                s.on;
            stop = s.stop;
          }

  no_item : {X : Type 0} (p : ℕ) (fs : List Bracket) (q : Bool) (ks out : List ℕ) → run M D [] p fs (need q) ks ≡ good out → X
  unfolding run at_end
  no_item p fs q ks out e = no_good e

  mutual
    item_found : (n : ℕ) → ItemsBelow n
    item_found zero [] h p fs q ks out e = no_item p fs q ks out e
    item_found (suc n) [] h p fs q ks out e = no_item p fs q ks out e
    item_found zero (b ∷ bs) h p fs q ks out e = absurd (omega arith)
    item_found (suc n) (b ∷ bs) h p fs q ks out e =
        item_step n (λ x y o es r js u f. item_found n x y o es r js u f) (λ x y o es js u f. sequence_found n x y o es js u f) b bs h p fs q ks out e

    sequence_found : (n : ℕ) → SequencesBelow n
    sequence_found zero bs h p fs ks out e = absurd (omega arith)
    sequence_found (suc n) bs h p fs ks out e =
        sequence_step n (λ x y o es r js u f. item_found n x y o es r js u f) (λ x y o es js u f. sequence_found n x y o es js u f) bs h p fs ks out e

  -- ---- a whole text

  pub sound : (t ks : List ℕ) → shorthand M D t ≡ good ks → DrillWithin M D t ks
  unfolding shorthand run at_end ended step at_closing exchanged exchanged_if
  sound t ks e = go (sequence_found (2 * length t + 1) t (omega arith) 0 [] [] ks e)
    where
      same : {a c : List ℕ} → good a ≡ good c → a ≡ c
      same x = cc

      end : (g : SequenceFound t [] [] ks) → Stop g.rest → DrillWithin M D t ks
      end g (bracketed r y) =
          let k : List ℕ = sequence_kinds g.items in
          good_stops 41 r g.place [] free k ks (rw y at g.on) (free_close M D 41 [] k refl)
      end g (nothing y) = record {
        drill = record {
          tree = g.items;
          counts = g.counts;
          written = sym (g.written ∙ rw y (append-nil (sequence_text g.items)));
          means = same (rw y at g.on);
        };
        few = good_few M D t ks e;
        flat = let d : D - 0 ≡ D = omega arith in subst (Depth g.items) d g.flat;
      }

      go : SequenceFound t [] [] ks → DrillWithin M D t ks
      go g = end g g.stop
