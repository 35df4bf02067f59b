-- The flags are written over all of the marks' region, and the second lengths over all of the types'.
use Rattle.grouping_preprocessor.proofs.StepLaws.{hits_marked, seconds_whole}
use Rattle.grouping_preprocessor.proofs.find_hit_marks.Goals as goal

pub returns-clause-marks : goal.returns-clause-marks
returns-clause-marks c = hits_marked _ _ _ _ _ _ c.requires.1.1.0 c.flag_coupled.ensures c.mark_hits.ensures

pub returns-clause-types : goal.returns-clause-types
returns-clause-types c =
    let marks = hits_marked _ _ _ _ _ _ c.requires.1.1.0 c.flag_coupled.ensures c.mark_hits.ensures in
    seconds_whole _ _ _ _ _ c.requires.1.0 marks c.second_lengths.ensures
