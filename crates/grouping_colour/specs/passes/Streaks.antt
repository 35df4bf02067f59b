-- The pass that marks streaks, by the kind of the last note so far, if there is one. The law that it makes the marks of
-- the definition is `streak_marks_passed`, in proofs/StreakLaws.antt.
use Rattle.std.specs.Prelude.{ℕ, cond, eqb, Option, Some, None}
use Rattle.grouping_chart.specs.Object.{is_note}

-- the mark of an object of kind k
unfoldable pub opens_after : Option ℕ → ℕ → ℕ
opens_after None k = 1
opens_after (Some last) k = cond (eqb last k) 0 1

-- the kind of the last note, after an object of kind k
unfoldable pub last_after : Option ℕ → ℕ → Option ℕ
last_after last k = cond (is_note k) (Some k) last
