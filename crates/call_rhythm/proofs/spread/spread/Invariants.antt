-- The loop's invariant: the first i objects have what is said of their notes, and `next` counts the notes among them.
use Rattle.std.proofs.Common.{◌≡◌, ℕ, ◌<◌, length}
use Rattle.lent.proofs.FillLaws.{Fill}
use Rattle.grouping_chart.specs.Object.{notes}
use Rattle.call_rhythm.specs.Rhythm.{per_note}
use Rattle.call_rhythm.proofs.SpreadLaws.{Passed}
use Rattle.call_rhythm.proofs.spread.spread.Given as goal

abbrev pub invariant-loop-i : goal.invariant-loop-i
invariant-loop-i g l =
    Passed l.fn.kind l.next.0 l.i
    × ((value : ℕ → _) → ((j : ℕ) (given : _) → j < length (notes l.fn.kind) → goal.F-post g l.fn.of_note j given → given ≡ value j)
    → Fill (per_note l.fn.none value l.fn.kind) (length l.fn.kind) 0 l.fn.out l.out l.i)
