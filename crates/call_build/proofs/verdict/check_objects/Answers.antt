-- Where all is good no object is refused; else the first that is refused is looked for. Each start and delta is tested at its place.
use Rattle.std.proofs.Common.{ℕ, refl, sym, ap, ◌∙◌, rules}
use lib.ListN.{get_or}
use lib.Ieee.{nan}
use Rattle.grouping_chart.specs.Refusal.{Check, kind_good, time_good, object_refusal}
use Rattle.grouping_chart.specs.passes.Good.{all, first_at}
use Rattle.grouping_chart.proofs.AllLaws.{places_tabulated}
use Rattle.grouping_chart.proofs.RefusalLaws.{chart-places}
use Rattle.call_build.specs.Build.{start_at, delta_at, built_chart}
use Rattle.call_build.specs.Lent.{raw_seen}
use Rattle.call_build.proofs.ChartLaws.{built-size, built-lengths, good_built}
use Rattle.call_build.proofs.verdict.check_objects.Goals as goal

pub returns-then-kinds-starts : goal.returns-then-kinds-starts
returns-then-kinds-starts c =
    let r = raw_seen c.args.timed.raw in
    let start = start_at c.args.timed.rate r.times in
    let delta = delta_at c.args.timed.rate r.times in
    let n = c.size-n.result in
    good_built _ r (sym c.size-n.ensures) (c.kinds_good-kinds.ensures ∙ ap (all kind_good) c.kinds.ensures)
    (c.all_places-starts.ensures (λ i. time_good (start i)) (λ i given h e. search rules) ∙ places_tabulated time_good start n)
    (c.all_places-deltas.ensures (λ i. time_good (delta i)) (λ i given h e. search rules) ∙ places_tabulated time_good delta n)
    c.if-kinds-starts.true

pub returns : goal.returns
returns c =
    let r = raw_seen c.args.timed.raw in
    let b = built_chart c.args.timed.rate r in
    let checks : ℕ → Check = λ i. object_refusal (get_or b.kinds i 0) (get_or b.starts i nan) (get_or b.deltas i nan) (get_or b.ratios i nan) in
    let size = built-size c.args.timed.rate r ∙ sym c.size-n.ensures in
    c.first_refused.ensures checks (λ i given h e. search rules)
    ∙ ap (first_at checks) (sym size) ∙ chart-places b (built-lengths c.args.timed.rate r) (λ i h. refl)
