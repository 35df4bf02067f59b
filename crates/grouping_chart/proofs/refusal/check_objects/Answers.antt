-- Where all is good no object is refused; else the first that is refused is looked for.
use Rattle.std.proofs.Common.{ℕ, refl, sym, ◌∙◌, rules}
use lib.ListN.{get_or}
use lib.Ieee.{nan}
use Rattle.grouping_chart.specs.Refusal.{Check, object_refusal}
use Rattle.grouping_chart.proofs.AcceptedLaws.{all_good_accepted}
use Rattle.grouping_chart.proofs.RefusalLaws.{chart-places}
use Rattle.grouping_chart.proofs.refusal.check_objects.Goals as goal

pub returns-then-all_good : goal.returns-then-all_good
returns-then-all_good c = all_good_accepted _ c.requires (sym c.all_good.ensures ∙ c.if-all_good.true)

pub returns : goal.returns
returns c =
    let a = c.args.chart in
    let checks : ℕ → Check = λ i. object_refusal (get_or a.kind.now i 0) (get_or a.start.now i nan) (get_or a.delta.now i nan) (get_or a.ratio.now i nan) in
    c.first_refused.ensures checks (λ i given h e. search rules)
    ∙ chart-places _ c.requires (λ i h. refl)
