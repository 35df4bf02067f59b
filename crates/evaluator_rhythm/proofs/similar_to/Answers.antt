-- The call of `any` answers `similar_to` by the same recursion over the list.
use Rattle.std.proofs.Common.{rules, tests, ◌∙◌}
use Rattle.std.proofs.lemmas.Iterator.{YieldsList-from_slice}
use Rattle.std.proofs.lemmas.Iterator.Search.{any_from_yields_List}
use Rattle.evaluator_rhythm.specs.RepeatedInterval.{similar}
use Rattle.evaluator_rhythm.proofs.PairLaws.{any_similar}
use Rattle.evaluator_rhythm.proofs.similar_to.Goals as goal

pub returns : goal.returns
returns c =
    any_from_yields_List (similar c.args.threshold c.args.newer) _ _ _ c.any.ensures.ran (YieldsList-from_slice c.args.older.now cc)
    (λ x b q k. search (rules, tests))
    ∙ any_similar c.args.threshold c.args.newer c.args.older.now
