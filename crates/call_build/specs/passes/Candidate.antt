-- A ratio with its gap to the quotient, which the pass carries so that it is worked out once.
use Rattle.std.specs.Prelude.{Float}
use Rattle.numeric.specs.passes.Gap.{gap_of}
use Rattle.call_build.specs.declared.ratio.Candidate.{Candidate}

unfoldable pub candidate_of : Float → Float → Candidate
candidate_of q r = record { ratio = r; gap = gap_of r q }
