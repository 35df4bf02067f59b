-- A part leaves one case fewer to follow, whichever tally it is counted in.
use Rattle.std.proofs.Common.{ap, arith}
use Rattle.replay_cases.specs.Count.{after_part, after_case}
use Rattle.replay_cases.specs.declared.count.Replay.{Replay}
use Rattle.replay_cases.proofs.count.Replay.after.Goals as goal

pub returns-in-Part : goal.returns-in-Part
unfolding after_case after_part
returns-in-Part c =
    record {
      counted = rw c.in-Part.is c.after_part.ensures;
      fewer = omega (arith, ap (λ (x : Replay). x.left) c.after_part.ensures, c.requires);
    }
