-- What the passes ask: a place for each built object in every answer slice.
use Rattle.std.specs.Prelude.{◌≤◌, length}
use Rattle.call_build.specs.Build.{Raw, built_size}
use Rattle.call_build.specs.Call.{Memory}

pub record BuildRoom (r : Raw) (m : Memory) : Type 0 where
  pub kind : built_size r ≤ length m.kind
  pub start : built_size r ≤ length m.start
  pub delta : built_size r ≤ length m.delta
  pub ratio : built_size r ≤ length m.ratio
