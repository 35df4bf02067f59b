-- Where all is good no object is refused; else the first that is refused is looked for.
use Rattle.std.proofs.Common.{ℕ, refl, sym, ◌∙◌, rules}
use lib.ListN.{get_or}
use lib.Ieee.{nan}
use Rattle.grouping_chart.specs.Refusal.{Check, object_order}
use Rattle.call_taps.specs.Taps.{range_of}
use Rattle.call_taps.specs.Refusals.{range_refusal}
use Rattle.call_taps.specs.Lent.{taps_seen}
use Rattle.call_taps.proofs.VerdictLaws.{all_good_accepted, objects_places}
use Rattle.call_taps.proofs.verdict.check_objects.Goals as goal

pub returns-then-all_good : goal.returns-then-all_good
returns-then-all_good c = all_good_accepted _ c.requires (sym c.all_good.ensures ∙ c.if-all_good.true)

pub returns : goal.returns
returns c =
    let t = taps_seen c.args.taps in
    let checks : ℕ → Check = λ i. object_order (get_or t.kinds i 0) (get_or t.starts i nan) (range_refusal (range_of t i)) (get_or t.ratios i nan) in
    c.first_refused.ensures checks (λ i given h e. search rules)
    ∙ objects_places t c.requires (λ i h. refl)
