-- How long the lists of hit patterns are.
use mathlib.Core.Path.{◌≡◌}
use mathlib.Core.List.{List}
use Prim.Native.Nat.{ℕ}
use lib.ListN.{length}
use Rattle.lent.proofs.ScanLaws.{length-scan}
use Rattle.lent.proofs.FillLaws.{length-tabulate}
use Rattle.grouping_hits.specs.RepeatingHitPatterns.{hit_marks, second_at, second_lengths, interval_at, intervals}
use Rattle.grouping_hits.specs.passes.Stages.{stage_after, opens_hit}
use Rattle.grouping_hits.specs.declared.Stage.TheVariants.{Closed}
use Rattle.grouping_hits.proofs.MarkLaws.{hit_marks-scan}

pub length-hit_marks : (flags : List ℕ) → length (hit_marks flags) ≡ length flags
length-hit_marks flags = rw (← hit_marks-scan) (length-scan stage_after opens_hit Closed flags)

pub length-second_lengths : (lengths marks : List ℕ) → length (second_lengths lengths marks) ≡ length lengths
unfolding second_lengths
length-second_lengths lengths marks = length-tabulate (second_at lengths marks) (length lengths)

pub length-intervals : (limit : ℕ) (sizes firsts seconds : List ℕ) → length (intervals limit sizes firsts seconds) ≡ length sizes
unfolding intervals
length-intervals limit sizes firsts seconds = length-tabulate (interval_at limit sizes firsts seconds) (length sizes)
