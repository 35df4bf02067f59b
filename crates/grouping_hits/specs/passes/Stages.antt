-- What the passes carry and leave: the stage of the pass over the coupled flags, and what a pass of the search leaves.
use Rattle.std.specs.Prelude.{cond, ◌&&◌, ℕ, ◌-◌, List, eqb, leb, length, get_or}
use Rattle.lent.specs.Scan.{tabulate}
use Rattle.grouping_hits.specs.RepeatingHitPatterns.{matches}
use Rattle.grouping_hits.specs.declared.Stage.{Stage}
use Rattle.grouping_hits.specs.declared.Stage.TheVariants.{Closed, Coupled, Uncoupled}

-- where the pattern behind one with this coupled flag stands: no hit pattern is open, coupled patterns of the open one
-- went before, or its first uncoupled one did too
unfoldable pub stage_after : Stage → ℕ → Stage
stage_after Closed coupled = cond (eqb coupled 0) Closed Coupled
stage_after Coupled coupled = cond (eqb coupled 0) Uncoupled Coupled
stage_after Uncoupled coupled = Closed

unfoldable pub opens_hit : Stage → ℕ → ℕ
opens_hit Closed coupled = 1
opens_hit Coupled coupled = 0
opens_hit Uncoupled coupled = 0

-- what each hit pattern has after a pass that looks k back: k where it matches the one k before it, else what it had
unfoldable pub match_taken_at : ℕ → List ℕ → List ℕ → List ℕ → List ℕ → ℕ → ℕ
match_taken_at k sizes firsts seconds had h = cond (leb k h && matches sizes firsts seconds (h - k) h) k
    (get_or had h 0)

unfoldable pub matches_taken : ℕ → List ℕ → List ℕ → List ℕ → List ℕ → List ℕ
matches_taken k sizes firsts seconds had = tabulate (match_taken_at k sizes firsts seconds had) (length sizes)
