-- The loop over the coupled flags is a walk whose state is the stage.
use mathlib.Core.Path.{◌≡◌, ◌∙◌}
use mathlib.Core.List.{List}
use Prim.Native.Nat.{ℕ, ◌≤◌}
use lib.ListN.{length}
use Rattle.lent.proofs.InPlaceLaws.{InPlace, place_start, place_end}
use Rattle.grouping_hits.specs.RepeatingHitPatterns.{hit_marks}
use Rattle.grouping_hits.specs.passes.Stages.{stage_after, opens_hit}
use Rattle.grouping_hits.specs.declared.Stage.{Stage}
use Rattle.grouping_hits.specs.declared.Stage.TheVariants.{Closed}
use Rattle.grouping_hits.proofs.MarkLaws.{hit_marks-scan}

-- i flags have given place to their marks
abbrev pub Marked : List ℕ → List ℕ → Stage → ℕ → Type 0
Marked flags now stage i = InPlace stage_after opens_hit Closed flags now stage i

pub marked_start : (flags : List ℕ) → Marked flags flags Closed 0
marked_start flags = place_start stage_after opens_hit Closed flags

pub marked_end : (flags now : List ℕ) (stage : Stage) (i : ℕ) → Marked flags now stage i → length flags ≤ i → now ≡ hit_marks flags
marked_end flags now stage i x h = place_end x h ∙ hit_marks-scan flags
