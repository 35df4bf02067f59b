-- Where a case may follow: one may at the start, and none at a file's end.
use Rattle.std.proofs.Common.{◌≡◌, ◌<◌, ◌≤◌, ap, arith}
use Rattle.replay_cases.specs.Count.{at_start, ended_with, after_case}
use Rattle.replay_cases.specs.declared.count.Replay.{Replay}
use Rattle.replay_cases.specs.declared.count.Replayed.TheVariants.{End}

-- a million cases may follow at the start, so a first one may
pub start_some : {r : Replay} → r ≡ at_start → 0 < r.left
unfolding at_start
start_some e = omega (arith, ap (λ (x : Replay). x.left) e)

-- none may follow at the file's end
pub end_none : (r : Replay) {s : Replay} → s ≡ after_case r End → s.left ≤ 0
unfolding after_case ended_with
end_none r e = omega (arith, ap (λ (x : Replay). x.left) e)
