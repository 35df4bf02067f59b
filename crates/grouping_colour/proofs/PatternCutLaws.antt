-- Alternating patterns: a boundary between two streaks of unequal length cuts the list of streaks, and the patterns behind it are those
-- of the back alone; whether a pattern is coupled hangs on what follows it alone.
use mathlib.Core.Path.{◌≡◌, refl, sym, ap, ◌∙◌}
use mathlib.Core.List.{List, ◌++◌}
use Prim.Native.Nat.{ℕ, zero, suc, ◌+◌, ◌-◌, ◌<◌}
use native.Mathlib.Omega.{arith}
use lib.ListN.{length, get_or, get_or-append}
use lib.Seq.{get_or-append-add}
use borrow.Author.Tests.{ne_eqb}
use Rattle.lent.specs.Scan.{tabulate}
use Rattle.grouping_marks.specs.Marks.{group_sizes, group_firsts}
use Rattle.lent.proofs.FillLaws.{get_or-tabulate}
use Rattle.grouping_marks.proofs.CutLaws.{Opening, opening_at, sizes-cut, firsts-cut}
use Rattle.grouping_marks.proofs.AlikeLaws.{alike-back}
use Rattle.lent.proofs.TableLaws.{ltb_past, tabulate-cut, tabulate_cut₂}
use Rattle.grouping_colour.specs.AlternatingMonoPattern.{opens_pattern, pattern_marks, coupled_at, coupled}
use Rattle.grouping_colour.proofs.LengthLaws.{length-pattern_marks}

-- ---- which streak opens a pattern

opens_pattern_first : (lengths : List ℕ) → opens_pattern lengths 0 ≡ 1
unfolding opens_pattern
opens_pattern_first lengths = refl

opens_pattern_differs : (lengths : List ℕ) (i : ℕ) → 0 < i → (get_or lengths i 0 ≡ get_or lengths (i - 1) 0 → ⊥) → opens_pattern lengths i ≡ 1
unfolding opens_pattern
opens_pattern_differs lengths i h n = let z : i ≡ 0 → ⊥ = λ e. omega arith in rw (ne_eqb i 0 z, ne_eqb _ _ n)

-- two lists with the same two lengths at the place and before it
opens_pattern_same : (ls ms : List ℕ) (i j : ℕ) → 0 < i → 0 < j → get_or ls i 0 ≡ get_or ms j 0 → get_or ls (i - 1) 0 ≡ get_or ms (j - 1) 0
    → opens_pattern ls i ≡ opens_pattern ms j
unfolding opens_pattern
opens_pattern_same ls ms i j h k e f =
    let z : i ≡ 0 → ⊥ = λ q. omega arith in
    let y : j ≡ 0 → ⊥ = λ q. omega arith in
    rw (ne_eqb i 0 z, ne_eqb j 0 y, e, f)

-- ---- the cut

-- the streak before the cut and the one after it have unequal lengths
pub record Uneven (front back : List ℕ) : Type 0 where
  pub some : 0 < length front
  pub differs : get_or back 0 0 ≡ get_or front (length front - 1) 0 → ⊥

module _ (front back : List ℕ) (u : Uneven front back) where
  front_same : (i : ℕ) → i < length front → opens_pattern (front ++ back) i ≡ opens_pattern front i
  front_same zero h = opens_pattern_first (front ++ back) ∙ sym (opens_pattern_first front)
  front_same (suc i) h =
      opens_pattern_same (front ++ back) front (suc i) (suc i) (omega arith) (omega arith)
      (get_or-append front back 0 (suc i) h) (get_or-append front back 0 (suc i - 1) (omega arith))

  back_same : (i : ℕ) → i < length back → opens_pattern (front ++ back) (length front + i) ≡ opens_pattern back i
  back_same zero h =
      let z : length front + 0 - 1 ≡ length front - 1 = omega arith in
      let last : get_or (front ++ back) (length front + 0 - 1) 0 ≡ get_or front (length front - 1) 0 =
      rw z (get_or-append front back 0 (length front - 1) (omega arith)) in
      opens_pattern_differs (front ++ back) (length front + 0) (omega arith)
      (λ e. u.differs (sym (get_or-append-add front back 0 0) ∙ e ∙ last)) ∙ sym (opens_pattern_first back)
  back_same (suc i) h =
      let z : length front + suc i - 1 ≡ length front + (suc i - 1) = omega arith in
      opens_pattern_same (front ++ back) back (length front + suc i) (suc i) (omega arith) (omega arith)
      (get_or-append-add front back (suc i) 0) (rw z (get_or-append-add front back (suc i - 1) 0))

  pub pattern_marks-cut : pattern_marks (front ++ back) ≡ pattern_marks front ++ pattern_marks back
  unfolding pattern_marks
  pattern_marks-cut = tabulate_cut₂ (opens_pattern (front ++ back)) (opens_pattern front) (opens_pattern back) front back front_same back_same

-- the back's first streak opens a pattern
pub pattern_marks-opening : (back : List ℕ) → Opening (pattern_marks back)
unfolding pattern_marks
pattern_marks-opening back =
    opening_at (pattern_marks back)
    (λ h. get_or-tabulate (opens_pattern back) (length back) 0 0 (omega (arith, length-pattern_marks back)) ∙ opens_pattern_first back)

-- of the patterns, the streak counts, and what is listed of their first streaks
module _ (front back : List ℕ) (u : Uneven front back) where
  pub counts-cut : group_sizes (pattern_marks (front ++ back)) ≡ group_sizes (pattern_marks front) ++ group_sizes (pattern_marks back)
  counts-cut = ap group_sizes (pattern_marks-cut front back u) ∙ sizes-cut (pattern_marks front) (pattern_marks back) (pattern_marks-opening back)

  pub listed_cut : (xs ys : List ℕ) → length front ≡ length xs → length back ≡ length ys
      → group_firsts (pattern_marks (front ++ back)) (xs ++ ys) ≡ group_firsts (pattern_marks front) xs ++ group_firsts (pattern_marks back) ys
  listed_cut xs ys e f =
      rw (pattern_marks-cut front back u)
      (firsts-cut (pattern_marks front) (pattern_marks back) xs ys (pattern_marks-opening back) (length-pattern_marks front ∙ e)
      (length-pattern_marks back ∙ f))

-- ---- coupled patterns
module _ (ls ls' cs cs' ts ts' : List ℕ) (e : length cs ≡ length ls) (f : length ts ≡ length ls) where
  coupled_at-back : (i : ℕ) → coupled_at (ls ++ ls') (cs ++ cs') (ts ++ ts') (length ls + i) ≡ coupled_at ls' cs' ts' i
  unfolding coupled_at
  coupled_at-back i =
      let two-on : length ls + i + 2 ≡ length ls + (i + 2) = omega arith in
      rw (ltb_past ls ls' i 2, two-on, alike-back ls ls' cs cs' ts ts' e f i (i + 2))

  -- the flags of the back are those of the back alone
  pub coupled-cut : coupled (ls ++ ls') (cs ++ cs') (ts ++ ts') ≡ tabulate (coupled_at (ls ++ ls') (cs ++ cs') (ts ++ ts')) (length ls) ++ coupled ls' cs' ts'
  unfolding coupled
  coupled-cut = tabulate-cut (coupled_at (ls ++ ls') (cs ++ cs') (ts ++ ts')) (coupled_at ls' cs' ts') ls ls' (λ i h. coupled_at-back i)
