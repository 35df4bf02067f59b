-- At each byte that the reading passes a text has no fault, and where the reading stops it has the fault by whose number it is refused. For a fault that
-- the grammar's words give, the text that they speak of is read too, under larger limits, and goes through the same states up to there.
use mathlib.Core.Path.{◌≡◌, refl, sym, ap, ◌∙◌}
use mathlib.Core.Logic.{◌⊎◌, inl, inr}
use mathlib.Core.Bool.{Bool, true, false}
use mathlib.Core.List.{List, ◌∷◌, ◌++◌}
use Prim.Native.Nat.{ℕ, ◌+◌, ◌-◌, ◌≤◌, ◌<◌}
use native.Mathlib.Omega.{arith}
use borrow.Author.Tests.{ne_eqb}
use lib.Dec.{eqb}
use lib.ListN.{length, take, drop, get_or, replicate}
use lib.Seq.{drop_at, length-take-le, take-length}
use Rattle.lent.proofs.NeverLaws.{never}
use Rattle.letters_grammar.specs.Letters.{is_digit, is_letter}
use Rattle.letters_grammar.specs.Grammar.{Viable}
use Rattle.letters_grammar.specs.Reading.{Bracket, Mode, need, free, after, tens, moves, refuses, good, refused, digit_first, at_end, step, run}
use Rattle.letters_grammar.specs.Faults.{open_brackets, closed_text, AddsObjects, letter, last, second, Misplaced, Unfinished, Crowded, TooDeep}
use Rattle.letters_grammar.specs.Faults.{Fault, misplaced, crowded, deep}
use Rattle.letters_grammar.proofs.ReadingLaws.{digit_behind}
use Rattle.letters_grammar.proofs.LetterLaws.{Lettered, a_letter, digit_range}
use Rattle.letters_grammar.proofs.ReadingLaws.{run-end, place_stops}
use Rattle.letters_grammar.proofs.MoveLaws.{is_tens, is_ready, Tells, Refusing, by12, by13, by14}
use Rattle.letters_grammar.proofs.ReachedLaws.{step_at, Reached, next, reached_run, moved, refusing, Passed}
use Rattle.letters_grammar.proofs.ReachedLaws.{reached_within, reached_few, reached_flat, reached_open, reached_after, reached_tens}
use Rattle.letters_grammar.proofs.AlikeLaws.{reached_alike, front_alike, front_within}
use Rattle.letters_grammar.proofs.Sound.{no_good}
use Rattle.letters_grammar.proofs.Complete.{Roomy, roomy}
use Rattle.letters_grammar.proofs.CloseLaws.{closers_first, closed_good, other_run, reached_viable, reached_closed}

letter_digit : (b : ℕ) → is_letter b ≡ true → is_digit b ≡ true → ⊥
unfolding is_letter
letter_digit b e d = let r = digit_range b d in go (ne_eqb b 100 (λ x. omega arith)) (ne_eqb b 107 (λ x. omega arith)) (ne_eqb b 110 (λ x. omega arith))
  where
    go : eqb b 100 ≡ false → eqb b 107 ≡ false → eqb b 110 ≡ false → ⊥
    go x y z = let n : is_letter b ≡ false = rw (x, y, z) in never (cc)

-- the reading of t under larger limits
module _ (M D : ℕ) (t : List ℕ) (M' D' : ℕ) (hM : M ≤ M') (hD : D ≤ D') where
  larger : {p : ℕ} {fs : List Bracket} {m : Mode} {ks : List ℕ} → Reached M D t p fs m ks → Reached M' D' t p fs m ks
  larger r = reached_alike M D t M' D' hM hD t r (λ q l. refl) (reached_within M D t r)

module _ (M D : ℕ) (t : List ℕ) where
  -- ---- a byte that is passed

  module _ (q : ℕ) (x : Passed M D t q) where
    -- the state behind it
    beyond : Reached M D t (q + 1) x.brackets' x.mode' x.kinds'
    beyond = next q x.brackets x.mode x.kinds refl x.within x.here x.on

    pub passed_viable : Viable (take (q + 1) t)
    passed_viable = reached_viable M D t beyond

    pub passed_flat : TooDeep D t q → ⊥
    passed_flat f =
        let l : length x.brackets < D = (moved M D t q x.brackets x.mode x.kinds x.on).opened f.opens in
        omega (arith, reached_open M D t x.here, f.full)

    module _ (f : Crowded M t q) where
      abbrev closers : List ℕ
      closers = replicate (open_brackets (take (q + 1) t)) 41

      abbrev u : List ℕ
      u = take (q + 1) t ++ closers

      wide : Roomy M D u f.kinds
      unfolding closed_text
      wide = roomy M D u f.kinds f.drill

      abbrev N : ℕ
      N = wide.objects

      abbrev E : ℕ
      E = wide.depth

      -- the text that is closed there goes on with its closing brackets alone
      crowded_same : is_tens x.mode' ≡ false → ⊥
      crowded_same e =
          let g : run N E closers (q + 1) x.brackets' x.mode' x.kinds' ≡ good f.kinds =
          sym (other_run M D t beyond closers (closers_first (open_brackets (take (q + 1) t)) ∙ sym e) N E wide.wider wide.deeper) ∙ wide.reads in
          let s : x.kinds' ≡ f.kinds = (closed_good N E (open_brackets (take (q + 1) t)) (q + 1) x.brackets' x.mode' x.kinds' f.kinds g).same in
          omega (arith, reached_few M D t beyond, ap length s, f.many)

      -- the first of two digits, with no digit behind it: a 1
      crowded_one : is_tens x.mode' ≡ true → is_digit (get_or t (q + 1) 0) ≡ false → ⊥
      unfolding is_tens is_ready
      crowded_one e d =
          let h : q + 1 ≤ length t = omega (arith, x.within) in
          let behind : drop (q + 1) u ≡ closers = drop_at (take (q + 1) t) closers (q + 1) (length-take-le (q + 1) t h) in
          let plain : is_digit (get_or u (q + 1) 0) ≡ false = sym (digit_behind u (q + 1)) ∙ rw behind (closers_first (open_brackets (take (q + 1) t))) in
          let w : q + 1 ≤ length u = front_within t (q + 1) closers h in
          let here : Reached N E u q x.brackets x.mode x.kinds =
          reached_alike M D t N E wide.wider wide.deeper u x.here (front_alike t (q + 1) closers h) (omega arith) in
          let on : step_at N E u q x.brackets x.mode x.kinds ≡ moves x.brackets' x.mode' x.kinds' =
          rw (plain, front_alike t (q + 1) closers h q (omega arith), sym d)
          ((moved M D t q x.brackets x.mode x.kinds x.on).larger N E wide.wider wide.deeper) in
          let r : Reached N E u (q + 1) x.brackets' x.mode' x.kinds' =
          next q x.brackets x.mode x.kinds refl (omega arith) here on in
          let g : run N E closers (q + 1) x.brackets' x.mode' x.kinds' ≡ good f.kinds =
          sym (reached_run N E u r ∙ rw behind) ∙ wide.reads in
          unready x.mode' e (closed_good N E (open_brackets (take (q + 1) t)) (q + 1) x.brackets' x.mode' x.kinds' f.kinds g).ready
        where
          unready : (m : Mode) → is_tens m ≡ true → is_ready m ≡ true → ⊥
          unready (need z) e r = never (cc)
          unready free e r = never (cc)
          unready (after i) e r = never (cc)
          unready (tens i d) e r = never (cc)

      crowded-tens : AddsObjects t q → (k : Mode) → x.mode' ≡ k → is_tens k ≡ true → Tells (get_or t q 0) x.mode k → ⊥
      unfolding is_tens Tells
      crowded-tens a (need z) s e w = never (cc)
      crowded-tens a free s e w = never (cc)
      crowded-tens a (after i) s e w = never (cc)
      crowded-tens (letter l) (tens i d) s e w = letter_digit (get_or t q 0) l w.0
      crowded-tens (last v y) (tens i d) s e w = crowded_one (rw s) y
      crowded-tens (second v y) (tens i d) s e w =
          let z : is_digit (get_or t (q - 1) 0) ≡ false = reached_after M D t i x.here w.1 in
          never (cc)

    pub passed_few : Crowded M t q → ⊥
    passed_few f = go (is_tens x.mode') refl
      where
        go : (z : Bool) → is_tens x.mode' ≡ z → ⊥
        go false e = crowded_same f e
        go true e = crowded-tens f f.adds x.mode' refl e (moved M D t q x.brackets x.mode x.kinds x.on).tells

  -- ---- where the reading stops

  module _ {p : ℕ} {fs : List Bracket} {m : Mode} {ks : List ℕ} (r : Reached M D t p fs m ks) where
    pub stop_misplaced : p < length t → ((M' D' : ℕ) (any : Bool) → step M' D' any (get_or t p 0) fs m ks ≡ refuses 12) → Misplaced t p
    stop_misplaced l f = record { within = l; before = reached_viable M D t r; upto = none }
      where
        none : Viable (take (p + 1) t) → ⊥
        none v =
            let w : List ℕ = take (p + 1) t ++ v.rest in
            let h : p + 1 ≤ length t = omega arith in
            let i : p + 1 ≤ length w = front_within t (p + 1) v.rest h in
            let k = roomy M D w v.kinds v.drill in
            let s : Reached k.objects k.depth w p fs m ks =
            reached_alike M D t k.objects k.depth k.wider k.deeper w r (front_alike t (p + 1) v.rest h) (omega arith) in
            let e : step k.objects k.depth (digit_first (drop (p + 1) w)) (get_or w p 0) fs m ks ≡ refuses 12 =
            rw (front_alike t (p + 1) v.rest h p (omega arith)) (f k.objects k.depth (digit_first (drop (p + 1) w))) in
            no_good
            (sym (reached_run k.objects k.depth w s ∙ place_stops k.objects k.depth w p fs m ks (omega arith) e) ∙ k.reads)

    pub stop_unfinished : p ≡ length t → at_end p fs m ks ≡ refused 12 p → Unfinished t p
    stop_unfinished e f = record {
      end = e;
      begins = rw (e, take-length t) at (reached_viable M D t r);
      none = λ kinds d.
          let k = roomy M D t kinds d in
          no_good
          (sym (reached_run k.objects k.depth t (larger M D t k.objects k.depth k.wider k.deeper r)
          ∙ run-end k.objects k.depth t p fs m ks (omega arith)
          ∙ f)
          ∙ k.reads);
    }

    module _ (l : p < length t) where
      pub stop_crowded : (k : Mode) (ls : List ℕ) → is_ready k ≡ true → M < length ls
          → ((M' D' : ℕ) → length ls ≤ M' → step_at M' D' t p fs m ks ≡ moves fs k ls)
          → (Lettered (get_or t p 0) ⊎ ((is_digit (get_or t p 0) ≡ true) × ((is_digit (get_or t (p + 1) 0) ≡ false) ⊎ (is_tens m ≡ true)))) → Crowded M t p
      stop_crowded k ls e h f a =
          let s : Reached (length ls) D t p fs m ks = larger M D t (length ls) D (omega arith) (omega arith) r in
          let n : Reached (length ls) D t (p + 1) fs k ls = next p fs m ks refl l s (f (length ls) D (omega arith)) in
          record { within = l; adds = adds a; kinds = ls; drill = reached_closed (length ls) D t n e; many = h }
        where
          adds : (Lettered (get_or t p 0) ⊎ ((is_digit (get_or t p 0) ≡ true) × ((is_digit (get_or t (p + 1) 0) ≡ false) ⊎ (is_tens m ≡ true))))
              → AddsObjects t p
          adds (inl z) = letter (a_letter z)
          adds (inr (d, inl z)) = last d z
          adds (inr (d, inr z)) = second d (reached_tens M D t r z)

      pub stop_deep : get_or t p 0 ≡ 40 → D ≤ length fs → (g : Bracket) (q : Bool)
          → ((M' D' : ℕ) → length fs < D' → step_at M' D' t p fs m ks ≡ moves (g ∷ fs) (need q) ks) → TooDeep D t p
      stop_deep o h g q f =
          let E : ℕ = length fs + 1 in
          let s : Reached M E t p fs m ks = larger M D t M E (omega arith) (omega (arith, reached_flat M D t r)) r in
          let n : Reached M E t (p + 1) (g ∷ fs) (need q) ks = next p fs m ks refl l s (f M E (omega arith)) in
          record { within = l; opens = o; upto = reached_viable M E t n; full = omega (arith, reached_open M D t r, reached_flat M D t r) }

      pub stop_fault : {n : ℕ} → step_at M D t p fs m ks ≡ refuses n → Fault M D t n p
      stop_fault {n} e = go (refusing M D t p fs m ks e)
        where
          go : Refusing M D (is_digit (get_or t (p + 1) 0)) (get_or t p 0) fs m ks n → Fault M D t n p
          go (by12 a f) = misplaced a (stop_misplaced l f)
          go (by13 a k ls z h f c) = crowded a (stop_crowded k ls z h f c)
          go (by14 a o h g q f) = deep a (stop_deep o h g q f)
