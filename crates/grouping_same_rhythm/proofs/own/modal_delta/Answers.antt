-- Of at most one note all stays as it is; of more, what the second delta counts as is rounded.
use Rattle.std.proofs.Common.{refl}
use Rattle.grouping_same_rhythm.proofs.OwnLaws.{modal_few, modal_more}
use Rattle.grouping_same_rhythm.proofs.own.modal_delta.Goals as goal

pub returns-then-deltas-lt2 : goal.returns-then-deltas-lt2
returns-then-deltas-lt2 c = modal_few _ _ c.if-deltas-lt2.true

pub returns : goal.returns
returns c = modal_more _ _ _ _ _ _ c.if-deltas-lt2.false c.normal_of-normal.ensures refl c.round_ties_even.ensures
