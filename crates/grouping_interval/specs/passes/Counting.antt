-- How many groups notes make, counted note by note with nothing written: what is known after some of them.
use Rattle.std.specs.Prelude.{ℕ, ◌+◌, ◌^◌, ◌≤◌, ◌<◌, cond, ltb, Float, Option, Some, None}
use Rattle.numeric.specs.Near.{is_near}
use Rattle.grouping_interval.specs.IntervalGrouping.{is_rise, pair_class, last_taken}
use Rattle.grouping_interval.specs.declared.notes.Counting.{Counting}

-- the first note, of delta d
unfoldable pub counted_first : Float → Counting
counted_first d = record { notes = 1; groups = 1; last = d; pending = None }

-- a further note, of delta d, behind one of delta `next` of which it was not known yet whether the group that took
-- `last` takes it
unfoldable pub counted_behind : Float → Counting → Float → Float → Counting
counted_behind margin c next d =
    cond (is_near margin next d) (record { notes = c.notes + 1; groups = c.groups; last = next; pending = Some d })
    (cond (is_rise margin next d)
    (record { notes = c.notes + 1; groups = c.groups + 1; last = d; pending = None })
    (record { notes = c.notes + 1; groups = c.groups + 1; last = next; pending = Some d }))

-- a further note: it is pending, where none is
abbrev pub counted_next : Float → Counting → Option Float → Float → Counting
counted_next margin c None d = record { notes = c.notes + 1; groups = c.groups; last = c.last; pending = Some d }
counted_next margin c (Some next) d = counted_behind margin c next d

unfoldable pub counted_further : Float → Counting → Float → Counting
counted_further margin c d = counted_next margin c c.pending d

-- one more note, where none or some are counted
unfoldable pub counted : Float → Option Counting → Float → Option Counting
counted margin None d = Some (counted_first d)
counted margin (Some c) d = Some (counted_further margin c d)

-- how many groups there are when no note follows, and this one is pending
abbrev pub counted_with : Float → Counting → Option Float → ℕ
counted_with margin c None = c.groups
counted_with margin c (Some next) =
    cond (last_taken (ltb 2 c.notes) (pair_class margin c.last next)) c.groups (c.groups + 1)

unfoldable pub groups_counted : Float → Counting → ℕ
groups_counted margin c = counted_with margin c c.pending

-- and where no note may be counted at all
unfoldable pub groups_in_all : Float → Option Counting → ℕ
groups_in_all margin None = 0
groups_in_all margin (Some c) = groups_counted margin c

-- one more note, or group, still fits a number of 64 bits
pub record SumsFit (c : Counting) : Type 0 where
  pub few : c.notes < 2 ^ 62
  pub groups_le : c.groups ≤ c.notes
