-- How long the lists of streaks and of alternating patterns are.
use mathlib.Core.Path.{◌≡◌}
use mathlib.Core.List.{List}
use Prim.Native.Nat.{ℕ}
use lib.ListN.{length}
use Rattle.lent.proofs.FillLaws.{length-tabulate}
use Rattle.grouping_colour.specs.MonoStreak.{opens_streak, streak_marks}
use Rattle.grouping_colour.specs.AlternatingMonoPattern.{opens_pattern, pattern_marks, coupled_at, coupled}

pub length-streak_marks : (kinds : List ℕ) → length (streak_marks kinds) ≡ length kinds
unfolding streak_marks
length-streak_marks kinds = length-tabulate (opens_streak kinds) (length kinds)

pub length-pattern_marks : (lengths : List ℕ) → length (pattern_marks lengths) ≡ length lengths
unfolding pattern_marks
length-pattern_marks lengths = length-tabulate (opens_pattern lengths) (length lengths)

pub length-coupled : (lengths counts types : List ℕ) → length (coupled lengths counts types) ≡ length lengths
unfolding coupled
length-coupled lengths counts types = length-tabulate (coupled_at lengths counts types) (length lengths)
