-- When two groupings are the same groups from an object on. The idea: from there on counterparts have group numbers that differ by a constant, and a group that
-- holds an object before reaches back so in both or in neither.
use mathlib.Core.Path.{◌≡◌, refl, sym, ◌∙◌}
use mathlib.Core.Bool.{Bool, true, false}
use mathlib.Core.List.{List}
use Prim.Native.Nat.{ℕ, ◌+◌, ◌-◌, ◌≤◌, ◌<◌}
use native.Mathlib.Omega.{arith}
use lib.Dec.{ltb}
use lib.ListN.{get_or}
use borrow.Author.Tests.{ltb-true, ltb-false}
use Rattle.agreement.specs.CommonTail.{Counterparts}
use Rattle.agreement.specs.SameGroups.{Groups, groups, group_at, OpensAt, SameGroups}

-- an object before object p is of object i's group
abbrev pub ReachesBack : Groups → ℕ → ℕ → Type 0
ReachesBack g p i = (j : ℕ) × ((j < p) × (group_at g j ≡ group_at g i))

pub record Matched (g : Groups) (p : ℕ) (g' : Groups) (p' : ℕ) : Type 0 where
  pub start : Counterparts g.count g'.count p p'
  pub from : ℕ
  pub from' : ℕ
  pub shift : (i i' : ℕ) → p ≤ i → i < g.count → Counterparts g.count g'.count i i' → group_at g i + from' ≡ group_at g' i' + from
  pub reach : (i i' : ℕ) → p ≤ i → i < g.count → Counterparts g.count g'.count i i' → ReachesBack g p i → ReachesBack g' p' i'
  pub reach' : (i i' : ℕ) → p ≤ i → i < g.count → Counterparts g.count g'.count i i' → ReachesBack g' p' i' → ReachesBack g p i

matched_sym : {g : Groups} {p : ℕ} {g' : Groups} {p' : ℕ} → Matched g p g' p' → Matched g' p' g p
matched_sym m = record {
  start = sym m.start;
  from = m.from';
  from' = m.from;
  shift = λ i i' l h c. sym (m.shift i' i (omega (arith, m.start)) (omega arith) (sym c));
  reach = λ i i' l h c. m.reach' i' i (omega (arith, m.start)) (omega arith) (sym c);
  reach' = λ i i' l h c. m.reach i' i (omega (arith, m.start)) (omega arith) (sym c);
}

module _ {g : Groups} {p : ℕ} {g' : Groups} {p' : ℕ} (m : Matched g p g' p') (i i' : ℕ) (l : p ≤ i)
    (c : Counterparts g.count g'.count i i') (o : OpensAt g i) where
  none_before : (j' : ℕ) → j' < i' → group_at g' j' ≡ group_at g' i' → ⊥
  none_before j' h e = by (ltb j' p') refl
    where
      by : (b : Bool) → ltb j' p' ≡ b → ⊥
      by true t =
          let x = m.reach' i i' l o.there c (j', (ltb-true j' p' t, e)) in
          o.first x.0 (omega (arith, x.1.0)) x.1.1
      by false t =
          let after : p' ≤ j' = ltb-false j' p' t in
          let j : ℕ = i - (i' - j') in
          let shift = m.shift j j' (omega (arith, m.start)) (omega (arith, o.there)) (omega (arith, m.start)) in
          o.first j (omega (arith, m.start)) (omega (arith, shift, m.shift i i' l o.there c))

  -- where a group opens, one opens at the counterpart
  opens-over : OpensAt g' i'
  opens-over = record { there = omega (arith, o.there); first = none_before }

  -- and each of its objects has its counterpart in the other
  objects-over : (j : ℕ) → j < g.count → group_at g j ≡ group_at g i → (j' : ℕ) × (Counterparts g.count g'.count j j' × (group_at g' j' ≡ group_at g' i'))
  objects-over j h e =
      let none : j < i → ⊥ = λ k. o.first j k e in
      let j' : ℕ = i' + (j - i) in
      let far : Counterparts g.count g'.count j j' = omega arith in
      (j', (far, omega (arith, m.shift j j' (omega arith) h far, m.shift i i' l o.there c)))

pub same_groups : {g : Groups} {p : ℕ} {g' : Groups} {p' : ℕ} → Matched g p g' p' → SameGroups g p g' p'
same_groups m = record {
  start = m.start;
  opens = λ i i' l c. (opens-over m i i' l c, opens-over (matched_sym m) i' i (omega (arith, m.start)) (sym c));
  same = λ i i' l c o. record {
    forth = objects-over m i i' l c o;
    back = λ j' h e.
        let x = objects-over (matched_sym m) i' i (omega (arith, m.start)) (sym c) (opens-over m i i' l c o) j' h e in
        (x.0, (sym x.1.0, x.1.1));
  };
}

-- ---- the same numbers in another list

-- the n numbers that `ys` begins with are those that `xs` begins with
pub record SameNumbers (n : ℕ) (xs ys : List ℕ) : Type 0 where
  pub at : (i : ℕ) → i < n → get_or ys i 0 ≡ get_or xs i 0

pub numbers_sym : {n : ℕ} {xs ys : List ℕ} → SameNumbers n xs ys → SameNumbers n ys xs
numbers_sym e = record { at = λ i h. sym (e.at i h) }

pub opens-alike : {n i : ℕ} {xs ys : List ℕ} → SameNumbers n xs ys → OpensAt (groups n xs) i → OpensAt (groups n ys) i
opens-alike {i = i} e o = record { there = o.there; first = λ j h f. o.first j h (sym (e.at j (omega (arith, o.there))) ∙ f ∙ e.at i o.there) }

pub groups-alike : {n n' : ℕ} {xs ys xs' ys' : List ℕ} {p p' : ℕ} → SameNumbers n xs ys → SameNumbers n' xs' ys'
    → SameGroups (groups n xs) p (groups n' xs') p' → SameGroups (groups n ys) p (groups n' ys') p'
groups-alike e e' s = record {
  start = s.start;
  opens = λ i i' l c. (
    λ o. opens-alike e' ((s.opens i i' l c).0 (opens-alike (numbers_sym e) o)),
    λ o. opens-alike e ((s.opens i i' l c).1 (opens-alike (numbers_sym e') o)),
  );
  same = λ i i' l c o.
      let x = s.same i i' l c (opens-alike (numbers_sym e) o) in
      let here = e.at i o.there in
      let there = e'.at i' (omega (arith, o.there)) in
      record {
        forth = λ j h f.
            let y = x.forth j h (sym (e.at j h) ∙ f ∙ here) in
            (y.0, (y.1.0, e'.at y.0 (omega (arith, y.1.0)) ∙ y.1.1 ∙ sym there));
        back = λ j' h f.
            let y = x.back j' h (sym (e'.at j' h) ∙ f ∙ there) in
            (y.0, (y.1.0, e.at y.0 (omega (arith, y.1.0)) ∙ y.1.1 ∙ sym here));
      };
}
