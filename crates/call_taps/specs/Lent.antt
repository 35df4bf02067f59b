-- The chart that the lent slices hold.
use Rattle.call_taps.specs.Taps.{TapChart, tap_chart}
use Rattle.call_taps.specs.declared.TapChart as lent

abbrev pub taps_seen : lent.TapChart → TapChart
taps_seen t = tap_chart t.kind.now t.start.now t.lowest.now t.highest.now t.ratio.now
