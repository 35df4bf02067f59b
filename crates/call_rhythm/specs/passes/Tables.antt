-- What the passes of rhythm ask and write: tables of the notes' and of the groups' numbers in the work slice, looked up
-- object by object.
use Rattle.std.specs.Prelude.{◌≡◌, ℕ, ◌*◌, ◌≤◌, ◌<◌, List, [], ◌∷◌, ◌++◌, length, get_or, Float}
use Rattle.lent.specs.Over.{part, Write, write}
use Rattle.lent.specs.Scan.{gathered}
use Rattle.grouping_marks.specs.Marks.{group_numbers}
use Rattle.grouping_marks.specs.Parted.{parted}
use Rattle.grouping_chart.specs.Chart.{largest}
use Rattle.grouping_chart.specs.Object.{notes}
use Rattle.grouping_interval.specs.Notes.{note_objects, of_notes}
use Rattle.grouping_interval.specs.IntervalGrouping.{interval_marks}
use Rattle.grouping_same_rhythm.specs.SameRhythm.{firsts_of, starts_of, intervals_of}
use Rattle.grouping_same_rhythm.specs.SameRhythm.{rhythm_marks, group_objects, group_intervals}
use Rattle.call_rhythm.specs.Rhythm.{per_note}
use Rattle.call_rhythm.specs.Call.{Memory}
use Rattle.call_rhythm.specs.declared.tables.GroupCounts.{GroupCounts}

-- ---- the tables, each in a region of n places of the work slice

-- at most n notes, whose objects are in front, and room for the regions
pub record NumbersRoom (deltas : List Float) (n : ℕ) (work : List ℕ) : Type 0 where
  pub few : n ≤ largest
  pub notes : length deltas ≤ n
  pub regions : 8 * n ≤ length work

-- what is written of it by the marks of the notes and their objects: each group's first object in region 1, each
-- note's group in region 2
abbrev pub numbers_writes : ℕ → List ℕ → List ℕ → List (Write ℕ)
numbers_writes n marks objects = write n (firsts_of (parted marks objects)) ∷ write (2 * n) (group_numbers marks) ∷ []

-- the groups' first objects, each with a start, are in region 1
pub record FirstsThere (starts : List Float) (n groups : ℕ) (work : List ℕ) (scratch : List Float) : Type 0 where
  pub few : n ≤ largest
  pub most : groups ≤ n
  pub regions : 8 * n ≤ length work
  pub floats : n ≤ length scratch
  pub inside : (k : ℕ) → k < groups → get_or (part n groups work) k 0 < length starts

-- the intervals of these groups, by the starts of all objects, and the marks of their patterns
abbrev pub intervals_from : Float → List Float → ℕ → ℕ → List ℕ → List Float
intervals_from margin starts n groups work = intervals_of margin (starts_of starts (part n groups work))

abbrev pub patterns_from : Float → List Float → ℕ → ℕ → List ℕ → List ℕ
patterns_from margin starts n groups work = interval_marks margin (intervals_from margin starts n groups work)

-- a start and a delta for each object, and room in the work slices
pub record TablesRoom (kinds : List ℕ) (starts deltas : List Float) (work : List ℕ) (scratch : List Float)
    : Type 0 where
  pub few : length kinds ≤ largest
  pub started : length starts ≡ length kinds
  pub whole : length deltas ≡ length kinds
  pub regions : 8 * length kinds ≤ length work
  pub floats : length kinds ≤ length scratch

-- what is written of the work slice: the notes' objects, the groups' first objects and the notes' groups,
unfoldable pub notes_writes : Float → List ℕ → List Float → List (Write ℕ)
notes_writes margin kinds deltas =
    let n = length kinds in
    write 0 (note_objects kinds)
    ∷ write n (firsts_of (group_objects margin kinds deltas))
    ∷ write (2 * n) (group_numbers (rhythm_marks margin kinds deltas))
    ∷ []

-- and behind them the groups' patterns
unfoldable pub work_writes : Float → List ℕ → List Float → List Float → List (Write ℕ)
work_writes margin kinds starts deltas =
    let patterns = group_numbers (interval_marks margin (group_intervals margin kinds starts deltas)) in
    notes_writes margin kinds deltas ++ (write (3 * length kinds) patterns ∷ [])

-- and of the scratch slice: the notes' deltas, and over them the groups' intervals
unfoldable pub scratch_writes : Float → List ℕ → List Float → List Float → List (Write Float)
scratch_writes margin kinds starts deltas =
    write 0 (of_notes kinds deltas) ∷ write 0 (group_intervals margin kinds starts deltas) ∷ []

-- ---- the answers

-- room for the tables, and for n objects in each answer slice too
pub record GroupsRoom (kinds : List ℕ) (starts deltas : List Float) (m : Memory) : Type 0 where
  pub tables : TablesRoom kinds starts deltas m.work m.scratch
  pub group_room : length kinds ≤ length m.group
  pub pattern_room : length kinds ≤ length m.pattern

-- what a list says of each note, object by object
abbrev pub by_object : List ℕ → List ℕ → List ℕ
by_object numbers kinds = per_note 65535 (λ (j : ℕ). get_or numbers j 0) kinds

-- the notes' groups, which region 2 has
abbrev pub note_groups : List ℕ → GroupCounts → List ℕ → List ℕ
note_groups kinds k work = part (2 * length kinds) k.notes work

-- their patterns, by the groups' patterns, which region 3 has
abbrev pub note_patterns : List ℕ → GroupCounts → List ℕ → List ℕ
note_patterns kinds k work = gathered (part (3 * length kinds) k.groups work) (note_groups kinds k work)

-- each note's group, which has a pattern, and room for each object in two answers
pub record TablesThere (kinds : List ℕ) (k : GroupCounts) (work group pattern : List ℕ) : Type 0 where
  pub few : length kinds ≤ largest
  pub noted : k.notes ≡ length (notes kinds)
  pub most : k.groups ≤ length kinds
  pub regions : 8 * length kinds ≤ length work
  pub below : (i : ℕ) → i < k.notes → get_or (note_groups kinds k work) i 0 < k.groups
  pub group_room : length kinds ≤ length group
  pub pattern_room : length kinds ≤ length pattern
