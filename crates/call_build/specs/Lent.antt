-- The raw objects that the lent slices hold.
use Rattle.call_build.specs.Build.{Raw, raw}
use Rattle.call_build.specs.declared.Raw as lent

abbrev pub raw_seen : lent.Raw → Raw
raw_seen r = raw r.kind.now r.time.now
