-- The call of `any` answers `holds` by the same recursion over the list.
use Rattle.std.proofs.Common.{rules, tests, ◌∙◌}
use Rattle.std.proofs.lemmas.Iterator.{YieldsList-from_slice}
use Rattle.std.proofs.lemmas.Iterator.Search.{any_from_yields_List}
use Rattle.grouping_normalizer.specs.Normalizer.{alike}
use Rattle.grouping_normalizer.proofs.SetLaws.{any_alike}
use Rattle.grouping_normalizer.proofs.is_held.Goals as goal

pub returns : goal.returns
returns c =
    any_from_yields_List (alike c.args.x) _ _ _ c.any.ensures.ran (YieldsList-from_slice c.args.values.now cc) (λ x b q k. search (rules, tests))
    ∙ any_alike c.args.x c.args.values.now
