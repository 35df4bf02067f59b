-- The loop's invariant: the first i places hold what f gives for them.
use Rattle.std.proofs.Common.{◌≡◌, ℕ, ◌<◌}
use Rattle.lent.specs.Scan.{tabulate}
use Rattle.lent.proofs.FillLaws.{Fill}
use Rattle.lent.proofs.fill.by_place.Given as goal

abbrev pub invariant-loop-i : goal.invariant-loop-i
invariant-loop-i g l =
    (value : ℕ → _) → ((i : ℕ) (given : _) → i < l.n → goal.F-post g l.fn.f i given → given ≡ value i) → Fill (tabulate value l.n) l.n 0 l.fn.out l.out l.i
