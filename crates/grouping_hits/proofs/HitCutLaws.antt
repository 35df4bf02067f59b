-- Hit patterns: behind two neighbouring uncoupled patterns the grouping begins anew.
use mathlib.Core.Path.{◌≡◌, refl}
use mathlib.Core.List.{List, [], ◌∷◌, ◌++◌, append_assoc}
use Prim.Native.Nat.{ℕ, ◌+◌}
use native.Mathlib.Omega.{arith}
use lib.ListN.{length}
use Rattle.lent.specs.Scan.{end_state, tabulate}
use Rattle.lent.proofs.ScanLaws.{scan-append, after_append}
use Rattle.lent.proofs.WalkLaws.{after_none, after_first}
use Rattle.grouping_marks.proofs.CutLaws.{Opening, nothing_left, opens}
use Rattle.lent.proofs.TableLaws.{get_or_past, ltb_past, tabulate-cut}
use Rattle.grouping_hits.specs.RepeatingHitPatterns.{hit_marks_after, hit_marks, second_at, second_lengths}
use Rattle.grouping_hits.specs.passes.Stages.{stage_after, opens_hit}
use Rattle.grouping_hits.specs.declared.Stage.{Stage}
use Rattle.grouping_hits.specs.declared.Stage.TheVariants.{Closed, Coupled, Uncoupled}
use Rattle.grouping_hits.proofs.MarkLaws.{hit_marks-scan}

-- ---- the stages

-- two uncoupled patterns, one after the other, leave no hit pattern open, whatever stage they meet
two_end : (stage : Stage) → stage_after (stage_after stage 0) 0 ≡ Closed
unfolding stage_after
two_end Closed = refl
two_end Coupled = refl
two_end Uncoupled = refl

after_two : (flags : List ℕ) → end_state stage_after Closed (flags ++ 0 ∷ 0 ∷ []) ≡ Closed
after_two flags =
    let s : Stage = end_state stage_after Closed flags in
    rw (after_append, after_first stage_after s, after_first stage_after (stage_after s 0), after_none) (two_end s)

-- behind them the marks are those of the back alone, and a hit pattern opens there if any pattern is left
pub hit_marks-cut : (flags back : List ℕ) → hit_marks (flags ++ (0 ∷ 0 ∷ back)) ≡ hit_marks (flags ++ (0 ∷ 0 ∷ [])) ++ hit_marks back
hit_marks-cut flags back =
    rw (← hit_marks-scan (flags ++ (0 ∷ 0 ∷ back)), ← hit_marks-scan (flags ++ (0 ∷ 0 ∷ [])), ← hit_marks-scan back, ← append_assoc flags (0 ∷ 0 ∷ []) back)
    (rw (scan-append stage_after opens_hit Closed (flags ++ (0 ∷ 0 ∷ [])) back, after_two flags))

pub hit_marks-opening : (back : List ℕ) → Opening (hit_marks back)
unfolding hit_marks hit_marks_after
hit_marks-opening [] = nothing_left
hit_marks-opening (c ∷ cs) = opens (λ (e : ◌≡◌ {A = ℕ} 1 0). omega arith)

-- ---- the second lengths

module _ (ls ls' ms ms' : List ℕ) (e : length ms ≡ length ls) where
  second_at-back : (i : ℕ) → second_at (ls ++ ls') (ms ++ ms') (length ls + i) ≡ second_at ls' ms' i
  unfolding second_at
  second_at-back i = rw (ltb_past ls ls' i 1, get_or_past ls ls' (length ls) i 1 refl, get_or_past ms ms' (length ls) i 1 e)

  pub second_lengths-cut : second_lengths (ls ++ ls') (ms ++ ms') ≡ tabulate (second_at (ls ++ ls') (ms ++ ms')) (length ls) ++ second_lengths ls' ms'
  unfolding second_lengths
  second_lengths-cut = tabulate-cut (second_at (ls ++ ls') (ms ++ ms')) (second_at ls' ms') ls ls' (λ i h. second_at-back i)
