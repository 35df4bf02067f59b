-- The loop's invariant: i values are marked, and what is left of the marks follows from the values left and one bit.
use Rattle.std.proofs.Common.{◌≡◌, ℕ, ◌+◌, ◌<◌, length, get_or}
use Rattle.grouping_interval.proofs.MarkLaws.{Marking}
use Rattle.grouping_interval.proofs.marks.mark_classes.Given as goal

abbrev pub invariant-loop-i : goal.invariant-loop-i
invariant-loop-i g l =
    (c : _ → _ → ℕ) → ((z : _) (i given : ℕ) → i + 1 < length l.fn.values
    → goal.F-post g l.fn.class (get_or l.fn.values i z) (get_or l.fn.values (i + 1) z) given
    → given ≡ c (get_or l.fn.values i z) (get_or l.fn.values (i + 1) z))
    → Marking c l.values l.initial.marks l.marks l.opens l.before l.i
