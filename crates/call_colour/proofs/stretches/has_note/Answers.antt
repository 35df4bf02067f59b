-- The call of `any` finds a note exactly where the list of the notes is not empty.
use Rattle.std.proofs.Common.{rules, tests, ◌∙◌}
use Rattle.std.proofs.lemmas.Iterator.{YieldsList-from_slice}
use Rattle.std.proofs.lemmas.Iterator.Search.{any_from_yields_List}
use Rattle.grouping_chart.specs.Object.{is_note}
use Rattle.call_colour.proofs.TurnLaws.{any_note}
use Rattle.call_colour.proofs.stretches.has_note.Goals as goal

pub returns : goal.returns
returns c =
    any_from_yields_List is_note _ _ _ c.any.ensures.ran (YieldsList-from_slice c.args.kind.now cc) (λ x b q k. search (rules, tests))
    ∙ any_note c.args.kind.now
