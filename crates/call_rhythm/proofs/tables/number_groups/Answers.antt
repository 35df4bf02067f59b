-- The intervals, as many as the groups, are in front of the scratch slice, and their groups' numbers fill the lent region whole.
use Rattle.call_rhythm.proofs.RegionLaws.{intervals_room, groups_numbered}
use Rattle.call_rhythm.proofs.tables.number_groups.Goals as goal

pub fill_intervals-requires : goal.fill_intervals-requires
fill_intervals-requires c = intervals_room c.requires

pub returns : goal.returns
returns c =
    let r = groups_numbered c.requires c.args.margin c.fill_intervals.ensures _ _ c.group_by_interval.ensures in
    record { count = r.0; work = r.1.0; scratch = r.1.1 }
