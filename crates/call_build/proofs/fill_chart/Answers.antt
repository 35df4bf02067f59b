-- The four lists that the passes leave are those of the built chart.
use mathlib.Core.Path.{sym, ap, ◌∙◌}
use mathlib.Core.List.{List}
use Prim.Native.Nat.{ℕ}
use Rattle.lent.specs.Over.{over}
use Rattle.call_build.specs.Call.{memory}
use Rattle.call_build.specs.Lent.{raw_seen}
use Rattle.call_build.proofs.CallLaws.{chart-filled}
use Rattle.call_build.proofs.fill_chart.Goals as goal

pub returns : goal.returns
returns c =
    let r = raw_seen c.args.timed.raw in
    let m = memory c.args.built_kind.now c.args.start.now c.args.delta.now c.args.ratio.now in
    chart-filled _ r m (sym c.size-n.ensures)
    (c.copy.ensures ∙ ap (λ (l : List ℕ). over l c.args.built_kind.now) c.kinds.ensures)
    c.fill_starts.ensures
    c.fill_deltas.ensures
    c.fill_ratios.ensures
