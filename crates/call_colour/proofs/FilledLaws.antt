-- What both calls leave of an accepted chart is the definition's memory: the values written, and the encoder's tables cleared.
use mathlib.Core.Path.{◌≡◌, ◌∙◌}
use mathlib.Core.List.{List}
use Prim.Native.Nat.{ℕ, ◌*◌}
use lib.ListN.{length, replicate, length-replicate}
use lib.Ieee.{Float, binary64, of_bits}
use Rattle.lent.specs.Over.{over}
use Rattle.lent.proofs.OverLaws.{over-agree}
use Rattle.grouping_chart.specs.Settings.{Settings}
use Rattle.grouping_preprocessor.specs.passes.Steps.{Tables}
use Rattle.grouping_preprocessor.specs.declared.Levels.{Levels}
use Rattle.evaluator_values.specs.Colour.{colour_values}
use Rattle.call_colour.specs.Call.{Memory, memory, filled}

pub filled_is : (s : Settings) {kinds w work : List ℕ} {k : Levels} {value scratch : List Float} (ratios : List Float) (m : Memory)
    → Tables s.search_limit kinds m.work w k
    → value ≡ over (colour_values k.limit s.tolerance kinds ratios) m.value
    → work ≡ over (replicate (8 * length kinds) 0) w
    → scratch ≡ over (replicate (length kinds) (of_bits binary64 0)) m.scratch
    → memory value work scratch ≡ filled s kinds ratios m
unfolding filled
filled_is s {kinds} {w} ratios m t v z f =
    let values = rw t.searched at v in
    let zeros = z ∙ over-agree (replicate (8 * length kinds) 0) w m.work (8 * length kinds) (length-replicate (8 * length kinds) 0) t.outside.beyond in
    λ i. memory (values i) (zeros i) (f i)
