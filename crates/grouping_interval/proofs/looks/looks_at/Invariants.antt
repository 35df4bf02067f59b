-- The loop's invariant: what was found so far, or is looked at from here on, is what is looked at in all.
use Rattle.std.proofs.Common.{◌≡◌, ℕ, ◌+◌, ◌<◌, length, get_or}
use Rattle.grouping_interval.proofs.LookLaws.{Looking}
use Rattle.grouping_interval.proofs.looks.looks_at.Given as goal

abbrev pub invariant-loop-i : goal.invariant-loop-i
invariant-loop-i g l =
    (c : _ → _ → ℕ) → ((z : _) (i given : ℕ) → i + 1 < length l.fn.values
    → goal.F-post g l.fn.class (get_or l.fn.values i z) (get_or l.fn.values (i + 1) z) given
    → given ≡ c (get_or l.fn.values i z) (get_or l.fn.values (i + 1) z))
    → Looking c l.wanted l.values l.found l.opens l.before l.i
