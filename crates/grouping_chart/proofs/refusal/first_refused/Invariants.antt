-- The loop's invariant: of the first i objects each passes its test.
use Rattle.std.proofs.Common.{◌≡◌, ℕ, ◌<◌}
use Rattle.grouping_chart.specs.Refusal.{Check, accepted}
use Rattle.grouping_chart.specs.passes.Good.{first_at}
use Rattle.grouping_chart.proofs.refusal.first_refused.Given as goal

abbrev pub invariant-loop-i : goal.invariant-loop-i
invariant-loop-i g l =
    (checks : ℕ → Check) → ((i : ℕ) (given : Check) → i < l.n → goal.F-post g l.fn.test i given → given ≡ checks i) → accepted ≡ first_at checks l.i
