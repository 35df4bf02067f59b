-- The loop's invariant: the candidate is that of the best of the first ratio and the later ones passed.
use Rattle.std.proofs.Common.{◌≡◌, take}
use Rattle.call_build.specs.Ratio.{first_ratio, later_ratios, nearest_of}
use Rattle.call_build.specs.passes.Candidate.{candidate_of}
use Rattle.call_build.proofs.ratio.nearest_ratio.Given as goal

abbrev pub invariant-loop-ratio : goal.invariant-loop-ratio
invariant-loop-ratio l = l.best ≡ candidate_of l.q (nearest_of l.q first_ratio (take l.ratio-index later_ratios))
