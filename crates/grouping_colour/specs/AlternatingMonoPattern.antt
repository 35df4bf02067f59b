-- Scope, alternating_mono_pattern.rs: neighbouring streaks of one length make an alternating pattern, and a
-- pattern is coupled with the next but one where the two are alike.
use Rattle.std.specs.Prelude.{ℕ, ◌+◌, ◌-◌, cond, ◌&&◌, List, eqb, ltb, length, get_or}
use Rattle.lent.specs.Scan.{tabulate}
use Rattle.grouping_marks.specs.Alike.{alike_at}

-- 1 where the streak i opens a pattern, by the streaks' lengths: the first, and each not as long as the one before
unfoldable pub opens_pattern : List ℕ → ℕ → ℕ
opens_pattern lengths i = cond (eqb i 0) 1 (cond (eqb (get_or lengths i 0) (get_or lengths (i - 1) 0)) 0 1)

unfoldable pub pattern_marks : List ℕ → List ℕ
pattern_marks lengths = tabulate (opens_pattern lengths) (length lengths)

-- 1 where the pattern i is coupled, by the patterns' first-streak lengths, streak counts and types:
-- there is a pattern i + 2, and it has the same three
unfoldable pub coupled_at : List ℕ → List ℕ → List ℕ → ℕ → ℕ
coupled_at lengths counts types i =
    cond (ltb (i + 2) (length lengths) && alike_at lengths counts types i (i + 2)) 1 0

unfoldable pub coupled : List ℕ → List ℕ → List ℕ → List ℕ
coupled lengths counts types = tabulate (coupled_at lengths counts types) (length lengths)
