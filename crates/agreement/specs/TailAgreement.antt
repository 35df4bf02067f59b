-- Whatever a player writes before a chart, the trainer says the same of the chart's end.
--
-- Two charts are accepted, and their last m objects are alike. What stands before these may change how the first of
-- them are grouped. But some places of the common tail are landmarks, and from a landmark on both charts get the same
-- answers. This file is the claim whole: demand 3 (scope: "Landmarks"). `tails_agree`, in proofs/TailsAgree.antt,
-- proves it of every two such charts, for every set of settings.
use Rattle.std.specs.Prelude.{ℕ, ◌+◌, ◌≤◌, ◌<◌, ◌⊎◌}
use Rattle.grouping_chart.specs.Chart.{Chart, size}
use Rattle.grouping_chart.specs.Settings.{Settings}
use Rattle.agreement.specs.CommonTail.{Counterparts, SameLast}
use Rattle.agreement.specs.SameGroups.{SameGroups}
use Rattle.agreement.specs.colour.Landmark.{ColourLandmark}
use Rattle.agreement.specs.colour.Claim.{ColourClaim}
use Rattle.agreement.specs.rhythm.Claim.{note_count, rhythm_groups, LandmarkNote, SameNote}

-- What the charts have in common: m objects at the end, with the same kinds, deltas and ratios. No start is asked for.
pub record AlikeTails (c c' : Chart) (m : ℕ) : Type 0 where
  pub kinds : SameLast m c.kinds c'.kinds
  pub deltas : SameLast m c.deltas c'.deltas
  pub ratios : SameLast m c.ratios c'.ratios

-- The claim about the two charts, from every landmark of the tail on. A landmark may be read in either chart.
pub record TailAgreement (s : Settings) (c c' : Chart) (m : ℕ) : Type 0 where
  -- Colour: a landmark stands behind p objects of the one chart and p' of the other. From there on hit patterns open at
  -- the same objects and hold the same objects; and from the sixteenth of them on, or whichever the search limit says,
  -- every object has the same interval and the same colour value, and every stretch the same mean and the same tenths,
  -- those of a lesson too.
  pub colour : (p p' : ℕ) → Counterparts (size c) (size c') p p'
      → ColourLandmark c.kinds m p ⊎ ColourLandmark c'.kinds m p'
      → ColourClaim s c c' p p'
  -- Rhythm: a landmark is note i of the one chart and note i' of the other. From there on groups open at the same notes
  -- and hold the same notes.
  pub rhythm : (i i' : ℕ) → Counterparts (note_count c) (note_count c') i i'
      → LandmarkNote s c m i ⊎ LandmarkNote s c' m i'
      → SameGroups (rhythm_groups s c) i (rhythm_groups s c') i'
  -- Objects of the tail that are counterparts are notes both or neither, and as notes they are counterparts too.
  pub notes : (o o' : ℕ) → size c ≤ o + m → o < size c → Counterparts (size c) (size c') o o' → SameNote c o c' o'
