-- The rhythm claim of what the call rhythm leaves on two accepted charts.
use Rattle.std.specs.Prelude.{ℕ}
use Rattle.lent.specs.Scan.{gathered}
use Rattle.grouping_chart.specs.Chart.{Chart}
use Rattle.grouping_interval.specs.Notes.{note_objects}
use Rattle.grouping_chart.specs.Settings.{Settings}
use Rattle.call_rhythm.specs.Call.{Memory, rhythm_outcome}
use Rattle.agreement.specs.SameGroups.{Groups, groups, SameGroups}
use Rattle.agreement.specs.rhythm.Claim.{note_count}

-- the notes' groups as rhythm writes them: it writes a number for each object, and these are the notes', in order
abbrev pub groups_written : Settings → Chart → Memory → Groups
groups_written s c lent =
    groups (note_count c) (gathered (rhythm_outcome s c lent).memory.group (note_objects c.kinds))

-- from note i of the one chart and note i' of the other on groups open at the same notes, and hold the same notes
abbrev pub RhythmCallClaim : Settings → Chart → Chart → Memory → Memory → ℕ → ℕ → Type 0
RhythmCallClaim s c c' lent lent' i i' = SameGroups (groups_written s c lent) i (groups_written s c' lent') i'
