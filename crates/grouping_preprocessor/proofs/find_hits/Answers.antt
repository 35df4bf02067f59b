-- The firsts and the seconds are listed in place of the lengths and of the types, whose places the numbers and the places take behind the search.
use native.Mathlib.Omega.{arith}
use mathlib.Core.Path.{ap, ◌∙◌}
use Rattle.lent.specs.Over.{over}
use Rattle.grouping_marks.specs.Marks.{group_numbers, group_places}
use Rattle.grouping_preprocessor.specs.passes.Writes.{intervals_by}
use Rattle.grouping_preprocessor.proofs.StepLaws.{copied, intervals_whole}
use Rattle.grouping_preprocessor.proofs.find_hits.Goals as goal

pub returns-clause-lengths : goal.returns-clause-lengths
returns-clause-lengths c = c.group_numbers.ensures ∙ ap group_numbers (copied _ _ _ (omega arith) c.copy.ensures ∙ c.find_hit_marks.ensures.marks)

pub returns-clause-types : goal.returns-clause-types
returns-clause-types c = c.group_places.ensures ∙ ap group_places (copied _ _ _ (omega arith) c.copy-2.ensures ∙ c.find_hit_marks.ensures.marks)

pub returns-clause-found : goal.returns-clause-found
returns-clause-found c =
    let m = c.find_hit_marks.ensures.marks in
    let y = c.find_hit_marks.ensures.types in
    let x = c.args.lengths.now in
    intervals_whole c.args.limit.value x c.args.counts.now c.find_hit_marks.new.types c.find_hit_marks.new.marks c.args.found.now c.group_sizes-hits.result
    c.group_sizes-hits.ensures.count (omega arith) (omega arith) _ _ _ _ c.group_sizes-hits.ensures.sizes
    c.keep_firsts.ensures c.keep_firsts-2.ensures c.repetition_intervals.ensures
    ∙ (λ i. over (intervals_by c.args.limit.value x (y i) (m i)) c.args.found.now)
