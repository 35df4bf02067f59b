-- Each place takes the interval of its group.
use Rattle.std.proofs.Common.{ap, ◌∙◌, length, rules}
use lib.ListN.{get_or}
use lib.Ieee.{nan}
use Rattle.lent.specs.Over.{over}
use Rattle.lent.proofs.FillLaws.{tabulate_places}
use Rattle.grouping_same_rhythm.specs.SameRhythm.{starts_of, intervals_of}
use Rattle.grouping_same_rhythm.proofs.GroupsLaws.{length-starts, length-intervals}
use Rattle.grouping_same_rhythm.proofs.groups.fill_intervals.Goals as goal

pub returns : goal.returns
returns c =
    let all = intervals_of c.args.margin (starts_of c.args.start.now c.args.firsts.now) in
    let n = length c.args.firsts.now in
    c.by_place.ensures (λ k. get_or all k nan) (λ k given h e. search rules)
    ∙ ap (λ l. over l c.args.intervals.now) (tabulate_places all nan n (length-intervals _ _ ∙ length-starts _ _))
