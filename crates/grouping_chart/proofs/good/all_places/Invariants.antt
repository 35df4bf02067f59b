-- The loop's invariant: what is found so far is the test of the first i places.
use Rattle.std.proofs.Common.{◌≡◌, ℕ, ◌<◌, Bool}
use Rattle.grouping_chart.specs.passes.Good.{all_places}
use Rattle.grouping_chart.proofs.good.all_places.Given as goal

abbrev pub invariant-loop-i : goal.invariant-loop-i
invariant-loop-i g l =
    (passes : ℕ → Bool) → ((i : ℕ) (given : Bool) → i < l.n → goal.F-post g l.fn.test i given → given ≡ passes i) → l.good ≡ all_places passes l.i
