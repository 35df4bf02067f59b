-- The pass over the coupled flags makes the marks of the definition. Where none is open no more patterns are taken, behind
-- coupled ones the coupled ones ahead and two more, behind the first uncoupled one one more.
use mathlib.Core.Path.{◌≡◌, refl}
use mathlib.Core.Bool.{Bool, true, false}
use mathlib.Core.List.{List, [], ◌∷◌, ◌++◌, map}
use Prim.Native.Nat.{ℕ, zero, suc, ◌+◌, ◌-◌}
use native.Mathlib.Omega.{arith}
use borrow.Author.Tests.{ne_eqb}
use lib.Dec.{eqb}
use lib.ListN.{take, drop}
use Rattle.lent.specs.Scan.{scan}
use Rattle.lent.proofs.WalkLaws.{scan_none, scan_first}
use Rattle.grouping_hits.specs.RepeatingHitPatterns.{coupled_run, hit_size, hit_marks_after, hit_marks}
use Rattle.grouping_hits.specs.passes.Stages.{stage_after, opens_hit}
use Rattle.grouping_hits.specs.declared.Stage.TheVariants.{Closed, Coupled, Uncoupled}

-- what the pass writes from each stage on
record FromStages (flags : List ℕ) : Type 0 where
  none : scan stage_after opens_hit Closed flags ≡ hit_marks_after 0 flags
  run : scan stage_after opens_hit Coupled flags ≡ hit_marks_after (coupled_run flags + 2) flags
  last : scan stage_after opens_hit Uncoupled flags ≡ hit_marks_after 1 flags

from_stages : (flags : List ℕ) → FromStages flags
unfolding stage_after opens_hit coupled_run hit_size hit_marks_after
from_stages [] = record {
  none = scan_none stage_after opens_hit Closed;
  run = scan_none stage_after opens_hit Coupled;
  last = scan_none stage_after opens_hit Uncoupled;
}
from_stages (c ∷ cs) = by (from_stages cs) (eqb c 0) refl
  where
    one_more_lem : suc (coupled_run cs) + 2 ≡ suc (coupled_run cs + 2)
    one_more_lem = omega arith

    run_left : suc (coupled_run cs) + 2 - 1 ≡ coupled_run cs + 2
    run_left = omega arith

    by : FromStages cs → (b : Bool) → eqb c 0 ≡ b → FromStages (c ∷ cs)
    by f true e = record {
      none = rw (scan_first, e, f.none);
      run = rw (scan_first, e, f.last);
      last = rw (scan_first, f.none);
    }
    by f false e = record {
      none = rw (scan_first, e, ne_eqb (suc (coupled_run cs)) 0 (λ z. omega arith), run_left, f.run);
      run = rw (scan_first, e, one_more_lem, f.run);
      last = rw (scan_first, f.none);
    }

pub hit_marks-scan : (flags : List ℕ) → scan stage_after opens_hit Closed flags ≡ hit_marks flags
unfolding hit_marks
hit_marks-scan flags = (from_stages flags).none

-- ---- in the words of the definition: the first hit pattern's marks, a 1 and zeros, and then the marks of what is left

marks_after_lem : (more : ℕ) (flags : List ℕ) → hit_marks_after more flags ≡ map (λ (c : ℕ). 0) (take more flags) ++ hit_marks (drop more flags)
unfolding hit_marks_after hit_marks
marks_after_lem zero flags = refl
marks_after_lem (suc more) [] = refl
marks_after_lem (suc more) (c ∷ cs) = rw (marks_after_lem more cs)

pub hit_marks_front : (c : ℕ) (cs : List ℕ)
    → hit_marks (c ∷ cs) ≡ 1 ∷ map (λ (c : ℕ). 0) (take (hit_size (c ∷ cs) - 1) cs) ++ hit_marks (drop (hit_size (c ∷ cs) - 1) cs)
unfolding hit_marks_after hit_marks
hit_marks_front c cs = rw (marks_after_lem (hit_size (c ∷ cs) - 1) cs)
