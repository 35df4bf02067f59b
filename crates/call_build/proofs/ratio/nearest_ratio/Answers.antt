-- A turn is one step of the definition; the literals are the definition's by computation.
use Rattle.std.proofs.Common.{◌≡◌, refl, sym, ap, ◌∙◌, arith}
use lib.Ieee.{nan, of_bits, round}
use Rattle.call_build.specs.Ratio.{quotient, first_ratio, later_ratios, nearest_of, nearest_ratio}
use Rattle.call_build.specs.passes.Candidate.{candidate_of}
use Rattle.call_build.proofs.CandidateLaws.{candidate_next, nearest-more}
use Rattle.call_build.proofs.ratio.nearest_ratio.Goals as goal

pub loop-ratio-init : goal.loop-ratio-init
unfolding nearest_of quotient round of_bits
loop-ratio-init c = c.measured-best.ensures

pub loop-ratio-preserved : goal.loop-ratio-preserved
unfolding quotient round of_bits
loop-ratio-preserved c =
    let next = candidate_next c.args.q _ _ c.loop-ratio.invariant c.nearer-best.ensures in
    next ∙ ap (candidate_of c.args.q) (sym (nearest-more c.args.q first_ratio later_ratios c.loop-ratio.ratio-index nan c.loop-ratio-test.true))

pub returns : goal.returns
unfolding candidate_of nearest_ratio quotient round of_bits
returns c =
    let all : c.loop-ratio.ratio-index ≡ 8 = omega arith in
    rw (c.loop-ratio.invariant, all) refl
