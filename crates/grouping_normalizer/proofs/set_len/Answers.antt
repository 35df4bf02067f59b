-- The values behind the first one that are near it are counted by place, up to the first that is not.
use Rattle.std.proofs.Common.{rules, tests, refl, length, get_or, ◌-◌}
use Rattle.std.specs.List.{range_with_len}
use lib.Ieee.{nan}
use Rattle.std.proofs.lemmas.Iterator.{YieldsList-from_range}
use Rattle.std.proofs.lemmas.Iterator.Search.{YieldsList-from_take_while}
use Rattle.std.proofs.lemmas.Iterator.Consumers.{count_from_yields_List}
use Rattle.numeric.specs.Near.{is_near}
use Rattle.grouping_normalizer.proofs.SetLaws.{set_counted}
use Rattle.grouping_normalizer.proofs.set_len.Goals as goal

pub returns : goal.returns
returns c =
    let values = c.args.values.now in
    set_counted c.args.margin values c.count.result c.requires
    (count_from_yields_List c.take_while.result _ c.count.ensures.ran
    (YieldsList-from_take_while {ys = range_with_len 1 (length values - 1)} _ (λ i. is_near c.args.margin (get_or values i nan) (get_or values 0 nan))
    (YieldsList-from_range 1 (length values) (length values - 1) (cc) refl)
    c.take_while.ensures.closure c.take_while.ensures.done
    (λ x b q k. search (rules, tests))))
