-- The intervals are made where the first objects were left, and the group is read from them.
use native.Mathlib.Omega.{arith}
use Rattle.grouping_chart.specs.Lent.{seen}
use Rattle.call_record.proofs.FindLaws.{LocatedIs, located_is, groups-small, group-below, region_inside, intervals_room}
use Rattle.call_record.proofs.FindLaws.{intervals-inside, intervals-counted, found, scratch-found, past_found}
use Rattle.call_record.proofs.found.find.Goals.{After-locate-located}
use Rattle.call_record.proofs.found.find.Goals as goal

-- what `locate` left
located : (c : After-locate-located)
    → let h = seen c.args.chart in
    let l = c.locate-located in
    LocatedIs c.args.margin h.kinds h.starts h.deltas c.args.g c.args.work.now l.new.work c.args.scratch.now l.new.scratch l.result
located c =
    let l = c.locate-located in
    let e = l.ensures in
    located_is c.requires e.found e.work e.scratch e.rest l.auto.scratch

pub overflow_add-n : goal.overflow_add-n
overflow_add-n c = omega (arith, groups-small (located (goal.at.overflow_add-n c).After-locate-located))

pub slice_bounds-fill_intervals-end : goal.slice_bounds-fill_intervals-end
slice_bounds-fill_intervals-end c = region_inside (located (goal.at.slice_bounds-fill_intervals-end c).After-locate-located)

pub fill_intervals-requires : goal.fill_intervals-requires
fill_intervals-requires c = intervals_room (located (goal.at.fill_intervals-requires c).After-locate-located)

pub offset_bounds-scratch-g : goal.offset_bounds-scratch-g
offset_bounds-scratch-g c =
    let x = located (goal.at.offset_bounds-scratch-g c).After-locate-located in
    omega (arith, group-below x, groups-small x)

pub bounds-scratch-g : goal.bounds-scratch-g
bounds-scratch-g c =
    let x = located (goal.at.bounds-scratch-g c).After-locate-located in
    omega (arith, group-below x, intervals-inside x c.fill_intervals.ensures)

pub slice_bounds-pattern_at-end : goal.slice_bounds-pattern_at-end
slice_bounds-pattern_at-end c =
    intervals-inside (located (goal.at.slice_bounds-pattern_at-end c).After-locate-located) c.fill_intervals.ensures

pub slice_bounds-pattern_at-end-2 : goal.slice_bounds-pattern_at-end-2
slice_bounds-pattern_at-end-2 c =
    intervals-counted (located (goal.at.slice_bounds-pattern_at-end-2 c).After-locate-located) c.fill_intervals.ensures

pub pattern_at-pattern-requires : goal.pattern_at-pattern-requires
pattern_at-pattern-requires c =
    let x = located (goal.at.pattern_at-pattern-requires c).After-locate-located in
    omega (arith, group-below x, intervals-counted x c.fill_intervals.ensures)

pub returns : goal.returns
returns c =
    let x = located (goal.at.returns c).After-locate-located in
    record {
      found = found x c.fill_intervals.ensures c.pattern_at-pattern.ensures;
      work = x.noted;
      scratch = scratch-found x c.fill_intervals.ensures;
      rest = past_found x c.fill_intervals.ensures;
    }
