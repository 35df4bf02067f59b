-- The search for a class among the neighbours at which a grouping looks: what was found so far, or is among those looked at from here on, is among all of them.
use mathlib.Core.Path.{◌≡◌, refl, sym, ap, ◌∙◌}
use mathlib.Core.Bool.{Bool, true, false, not, ◌&&◌, ◌||◌, cond, or_assoc, or-false}
use mathlib.Core.List.{List, [], ◌∷◌}
use Prim.Native.Nat.{ℕ, suc, ◌+◌, ◌-◌, ◌≤◌, ◌<◌}
use native.Mathlib.Omega.{arith}
use lib.Dec.{eqb}
use lib.ListN.{length, drop, get_or}
use lib.Seq.{drop-cons}
use borrow.Author.Tests.{lt-ltb}
use Rattle.std.proofs.lemmas.List.{get_or_default}
use Rattle.lent.proofs.NeverLaws.{never}
use Rattle.grouping_interval.specs.LookedAt.{looked_after, looked_at, among}
use Rattle.grouping_interval.specs.passes.MarkPass.{opens_next}
use Rattle.grouping_interval.proofs.GroupLaws.{two_left, one_left}
use Rattle.grouping_interval.proofs.MarkLaws.{some_of}

module _ {T : Type 0} (class : T → T → ℕ) (wanted : ℕ) where
  -- behind a value that opens a group whatever it is
  unfoldable looked_from : Bool → List T → List ℕ
  looked_from many [] = []
  looked_from many (v ∷ rest) = looked_after class many v rest

  -- whether it is among those looked at behind `last`; `opens` says that the first value opens a group whatever it is
  unfoldable found_under : Bool → Bool → T → List T → Bool
  found_under many opens last values = cond opens (among wanted (looked_from many values)) (among wanted (looked_after class many last values))

  -- two values or more are left
  found_under_lem : (many opens : Bool) (last v w : T) (rest : List T)
      → found_under many opens last (v ∷ w ∷ rest)
      ≡ ((not opens && eqb (class v w) wanted) || found_under many (opens_next opens (class v w)) v (w ∷ rest))
  unfolding found_under looked_from looked_after among
  found_under_lem many true last v w rest = refl
  found_under_lem many false last v w rest = by (eqb (class v w) 1)
    where
      by : (r : Bool) → (eqb (class v w) wanted || among wanted (cond r (looked_after class many w rest) (looked_after class many v (w ∷ rest))))
          ≡ (eqb (class v w) wanted || cond r (among wanted (looked_after class many w rest)) (among wanted (looked_after class many v (w ∷ rest))))
      by true = refl
      by false = refl

  -- the last value
  found_under_last : (opens : Bool) (last v : T) → found_under true opens last (v ∷ []) ≡ (not opens && eqb (class last v) wanted)
  unfolding found_under looked_from looked_after among
  found_under_last true last v = refl
  found_under_last false last v = or-false _

  -- of up to two values none is looked at
  pub none_looked_at : (values : List T) → length values ≤ 2 → false ≡ among wanted (looked_at class values)
  unfolding looked_at looked_after among
  none_looked_at [] h = refl
  none_looked_at (v ∷ []) h = refl
  none_looked_at (v ∷ w ∷ []) h = refl
  none_looked_at (v ∷ w ∷ x ∷ rest) h = absurd (omega arith)

  -- i values are passed, there is one more, and `before` is the class of the last two of those
  pub record Looking (values : List T) (found opens : Bool) (before i : ℕ) : Type 0 where
    left : (z : T) → among wanted (looked_at class values) ≡ (found || found_under true opens (get_or values (i - 1) z) (drop i values))
    pub within : i < length values
    begun : opens ≡ false → 0 < i
    known : (z : T) → 0 < i → before ≡ class (get_or values (i - 1) z) (get_or values i z)

  pub looking_start : (values : List T) (before : ℕ) → 2 < length values → Looking values false true before 0
  unfolding found_under looked_at looked_from looked_after
  looking_start [] before h = absurd (omega arith)
  looking_start (v ∷ values) before h = record {
    left = λ z. rw (lt-ltb 1 (length values) (omega arith)) refl;
    within = omega arith;
    begun = λ e. never (cc);
    known = λ z p. absurd (omega arith);
  }

  module _ {values : List T} {found opens : Bool} {before i : ℕ} (x : Looking values found opens before i) where
    pub looking_turn : (z : T) (c : ℕ) → i < length values - 1 → c ≡ class (get_or values i z) (get_or values (i + 1) z)
        → Looking values (found || (not opens && eqb c wanted)) (opens_next opens c) c (i + 1)
    looking_turn z c h e =
        let back : i + 1 - 1 ≡ i = omega arith in
        let same : (y : T) → c ≡ class (get_or values i y) (get_or values (i + 1) y) =
        λ y. e ∙ rw (get_or_default values i z y (omega arith), get_or_default values (i + 1) z y (omega arith)) refl in
        record {
          left = λ y. rw (back, same y)
              (x.left y
              ∙ ap (λ l. found || found_under true opens (get_or values (i - 1) y) l) (two_left values i y (omega arith))
              ∙ ap (λ b. found || b)
              (found_under_lem true opens (get_or values (i - 1) y) (get_or values i y) (get_or values (i + 1) y) (drop (suc (i + 1)) values))
              ∙ sym (or_assoc found _ _)
              ∙ ap (λ l. (found || (not opens && eqb (class (get_or values i y) (get_or values (i + 1) y)) wanted))
              || found_under true (opens_next opens (class (get_or values i y) (get_or values (i + 1) y))) (get_or values i y) l)
              (sym (drop-cons values (i + 1) y (omega arith))));
          within = omega arith;
          begun = λ k. omega arith;
          known = λ y k. rw back (same y);
        }

    pub looking_done : length values - 1 ≤ i → (found || (not opens && eqb before wanted)) ≡ among wanted (looked_at class values)
    looking_done h =
        let z : T = some_of values (omega (arith, x.within)) in
        let last : T = get_or values (i - 1) z in
        let v : T = get_or values i z in
        sym
        (x.left z
        ∙ ap (λ l. found || found_under true opens last l) (one_left values i z x.within (omega (arith, x.within)))
        ∙ ap (λ b. found || b) (found_under_last opens last v ∙ by z opens refl))
      where
        by : (z : T) (o : Bool) → opens ≡ o → (not o && eqb (class (get_or values (i - 1) z) (get_or values i z)) wanted) ≡ (not o && eqb before wanted)
        by z true e = refl
        by z false e = rw (x.known z (x.begun e)) refl
