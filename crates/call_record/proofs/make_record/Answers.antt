-- What was found is scored, and the slices that served for it are cleared.
use Rattle.call_record.proofs.FindLaws.{recorded, cleared_is}
use Rattle.call_record.proofs.make_record.Goals as goal

pub returns : goal.returns
returns c =
    let a = c.args in
    let e = c.find-found.ensures in
    record {
      made =
          recorded a.s a.chart.kind.now a.chart.start.now a.chart.delta.now a.g a.window e.found c.ratio-ratio.ensures c.canonical.ensures
          c.repeated_interval_penalty-penalty.ensures c.canonical-2.ensures;
      cleared = cleared_is _ c.requires e.work e.rest c.front.ensures c.front-2.ensures;
    }
