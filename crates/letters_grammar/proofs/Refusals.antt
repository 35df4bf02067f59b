-- A text is refused exactly by its first fault, the earliest byte and there the smallest number; and it is good exactly where it has none. By the way in
-- which the reading ends: each byte before that was passed, and so has no fault.
use mathlib.Core.Path.{◌≡◌, refl, ◌∙◌}
use mathlib.Core.Bool.{Bool, true, false}
use mathlib.Core.List.{List}
use Prim.Native.Nat.{ℕ, ◌+◌, ◌≤◌, ◌<◌}
use native.Mathlib.Omega.{arith}
use borrow.Author.Tests.{ltb-true, ltb-false}
use lib.Dec.{ltb}
use lib.ListN.{length, take, get_or, replicate}
use Rattle.lent.proofs.NeverLaws.{never}
use Rattle.letters_grammar.specs.Letters.{is_digit, is_letter}
use Rattle.letters_grammar.specs.Grammar.{Viable}
use Rattle.letters_grammar.specs.Reading.{Bracket, Mode, Finding, good, refused, shorthand}
use Rattle.letters_grammar.specs.Faults.{open_brackets, closed_text, AddsObjects, letter, last, second, Crowded, TooDeep}
use Rattle.letters_grammar.specs.Faults.{Fault, misplaced, unfinished, crowded, deep, FirstFault}
use Rattle.letters_grammar.proofs.ReachedLaws.{Reached, reached_within, passed, Ending, whole, short, stops, ending}
use Rattle.letters_grammar.proofs.Sound.{sound}
use Rattle.letters_grammar.proofs.FaultLaws.{passed_viable, passed_flat, passed_few, stop_unfinished, stop_fault}

-- ---- two faults at one byte

at_least_12 : {M D : ℕ} {t : List ℕ} {n p : ℕ} → Fault M D t n p → 12 ≤ n
at_least_12 (misplaced e x) = omega arith
at_least_12 (unfinished e x) = omega arith
at_least_12 (crowded e x) = omega arith
at_least_12 (deep e x) = omega arith

crowded_viable : {M : ℕ} {t : List ℕ} {p : ℕ} → Crowded M t p → Viable (take (p + 1) t)
unfolding closed_text
crowded_viable {M} {t} {p} x = record { rest = replicate (open_brackets (take (p + 1) t)) 41; kinds = x.kinds; drill = x.drill }

-- no bracket adds objects
bracket-adds : {X : Type 0} {t : List ℕ} {p : ℕ} → AddsObjects t p → get_or t p 0 ≡ 40 → X
unfolding is_letter is_digit
bracket-adds (letter e) o = never (cc (rw o at e))
bracket-adds (last e f) o = never (cc (rw o at e))
bracket-adds (second e f) o = never (cc (rw o at e))

smaller-crowded : {M D : ℕ} {t : List ℕ} {n p : ℕ} → Crowded M t p → Fault M D t n p → 13 ≤ n
smaller-crowded x (misplaced e y) = absurd (y.upto (crowded_viable x))
smaller-crowded x (unfinished e y) = absurd (omega (arith, x.within, y.end))
smaller-crowded x (crowded e y) = omega arith
smaller-crowded x (deep e y) = omega arith

smaller-deep : {M D : ℕ} {t : List ℕ} {n p : ℕ} → TooDeep D t p → Fault M D t n p → 14 ≤ n
smaller-deep x (misplaced e y) = absurd (y.upto x.upto)
smaller-deep x (unfinished e y) = absurd (omega (arith, x.within, y.end))
smaller-deep x (crowded e y) = bracket-adds y.adds x.opens
smaller-deep x (deep e y) = omega arith

module _ (M D : ℕ) (t : List ℕ) where
  -- ---- no fault before a place that is reached

  before_none : {p : ℕ} {fs : List Bracket} {m : Mode} {ks : List ℕ} → Reached M D t p fs m ks → (n q : ℕ) → q < p → Fault M D t n q → ⊥
  before_none r n q l f = go f
    where
      go : Fault M D t n q → ⊥
      go (misplaced e x) = x.upto (passed_viable M D t q (passed M D t r q l))
      go (unfinished e x) = omega (arith, x.end, reached_within M D t r)
      go (crowded e x) = passed_few M D t q (passed M D t r q l) x
      go (deep e x) = passed_flat M D t q (passed M D t r q l) x

  -- the fault at a place that is reached is the first
  first_of : {p : ℕ} {fs : List Bracket} {m : Mode} {ks : List ℕ} → Reached M D t p fs m ks → {n : ℕ} → Fault M D t n p → FirstFault M D t n p
  first_of {p} r {n} f = record { fault = f; earliest = earliest; smallest = smallest f }
    where
      earliest : (m q : ℕ) → Fault M D t m q → p ≤ q
      earliest m q g = go (ltb q p) refl
        where
          go : (z : Bool) → ltb q p ≡ z → p ≤ q
          go true z = absurd (before_none r m q (ltb-true q p z) g)
          go false z = ltb-false q p z

      smallest : Fault M D t n p → (m : ℕ) → Fault M D t m p → n ≤ m
      smallest (misplaced e x) m g = omega (arith, at_least_12 g)
      smallest (unfinished e x) m g = omega (arith, at_least_12 g)
      smallest (crowded e x) m g = omega (arith, smaller-crowded x g)
      smallest (deep e x) m g = omega (arith, smaller-deep x g)

  -- ---- the theorem

  -- what is refused is refused by its first fault
  pub refused_first : (n p : ℕ) → shorthand M D t ≡ refused n p → FirstFault M D t n p
  refused_first n p e = go (ending M D t) e
    where
      go : {o : Finding} → Ending M D t o → o ≡ refused n p → FirstFault M D t n p
      go (whole fs m ks r) x = never (cc)
      go (short fs m ks r z) x =
          let a : 12 ≡ n = cc in
          let b : length t ≡ p = cc in
          rw (a, b) at (first_of r (unfinished refl (stop_unfinished M D t r refl z)))
      go (stops i q fs m ks l r z) x =
          let a : i ≡ n = cc in
          let b : q ≡ p = cc in
          rw (a, b) at (first_of r (stop_fault M D t r l z))

  -- what is good has no fault
  pub good_faultless : (ks : List ℕ) → shorthand M D t ≡ good ks → (n p : ℕ) → Fault M D t n p → ⊥
  good_faultless ks e n p f = go (ending M D t) e f
    where
      go : {o : Finding} → Ending M D t o → o ≡ good ks → Fault M D t n p → ⊥
      go (whole fs m ls r) x (misplaced a y) = before_none r n p y.within f
      go (whole fs m ls r) x (unfinished a y) = y.none ks (sound M D t ks e).drill
      go (whole fs m ls r) x (crowded a y) = before_none r n p y.within f
      go (whole fs m ls r) x (deep a y) = before_none r n p y.within f
      go (short fs m ls r z) x y = never (cc)
      go (stops i q fs m ls l r z) x y = never (cc)

  -- and the first fault that there is refuses
  pub first_refused_lem : (n p : ℕ) → FirstFault M D t n p → shorthand M D t ≡ refused n p
  first_refused_lem n p f = go (shorthand M D t) refl
    where
      same : (m q : ℕ) → FirstFault M D t m q → q ≡ p → (m ≡ n) × (q ≡ p)
      same m q g e =
          let h : FirstFault M D t m p = rw e at g in
          let a : n ≤ m = f.smallest m h.fault in
          let b : m ≤ n = h.smallest n f.fault in
          (omega arith, e)

      go : (o : Finding) → shorthand M D t ≡ o → shorthand M D t ≡ refused n p
      go (good ks) e = absurd (good_faultless ks e n p f.fault)
      go (refused m q) e =
          let g = refused_first m q e in
          let a : p ≤ q = f.earliest m q g.fault in
          let b : q ≤ p = g.earliest n p f.fault in
          let s = same m q g (omega arith) in
          e ∙ rw (s.0, s.1)

  -- so a text without a fault is good
  pub record Taken : Type 0 where
    pub kinds : List ℕ
    pub reads : shorthand M D t ≡ good kinds

  pub faultless_good : ((n p : ℕ) → Fault M D t n p → ⊥) → Taken
  faultless_good f = go (shorthand M D t) refl
    where
      go : (o : Finding) → shorthand M D t ≡ o → Taken
      go (good ks) e = record { kinds = ks; reads = e }
      go (refused n p) e = absurd (f n p (refused_first n p e).fault)
