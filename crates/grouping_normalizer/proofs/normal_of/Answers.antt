-- The distinct values stand in front, and the middle is looked for among them.
use Rattle.grouping_normalizer.proofs.DistinctLaws.{normal}
use Rattle.grouping_normalizer.proofs.normal_of.Goals as goal

pub returns : goal.returns
returns c = normal c.distinct_values-k.ensures _ _ _ c.middle_of.ensures
