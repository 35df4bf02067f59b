-- What the passes of record ask, answer and write.
use Rattle.std.specs.Prelude.{ℕ, suc, ◌<◌, List, [], ◌∷◌, ◌++◌, T, length, get_or, Float}
use Rattle.std.specs.Float.{nan}
use Rattle.std.specs.Float.Ieee.Scale.{finite}
use Rattle.lent.specs.Over.{Write, write}
use Rattle.grouping_interval.specs.Notes.{of_notes}
use Rattle.grouping_same_rhythm.specs.SameRhythm.{group_deltas, group_intervals}
use Rattle.grouping_same_rhythm.specs.SamePatterns.{pattern_of}
use Rattle.grouping_same_rhythm.specs.passes.Owns.{settled_up_to}
use Rattle.call_rhythm.specs.Rhythm.{groups_in}
use Rattle.call_rhythm.specs.passes.Tables.{TablesRoom}
use Rattle.call_record.specs.Record.{objects_in, owns_at, duration_of}
use Rattle.call_record.specs.declared.found.LocatedGroup.{LocatedGroup}
use Rattle.call_record.specs.declared.found.FoundGroup.{FoundGroup}

-- a start and a finite delta for each object, room in the work slices, and a group g
pub record GroupRoom (margin : Float) (kinds : List ℕ) (starts deltas : List Float) (g : ℕ) (work : List ℕ)
    (scratch : List Float) : Type 0 where
  pub tables : TablesRoom kinds starts deltas work scratch
  pub numbers : (i : ℕ) → i < length deltas → T (finite (get_or deltas i nan))
  pub there : g < groups_in margin kinds deltas

-- what is said of group g's notes
abbrev pub located_at : Float → List ℕ → List Float → List Float → ℕ → LocatedGroup
located_at margin kinds starts deltas g = record {
  first = record { 0 = get_or (objects_in margin kinds deltas g) 0 0 };
  notes = length (objects_in margin kinds deltas g);
  owns = owns_at margin kinds deltas g;
  duration = duration_of starts (objects_in margin kinds deltas g);
  groups = groups_in margin kinds deltas;
}

-- and of the group
abbrev pub found_at : Float → List ℕ → List Float → List Float → ℕ → FoundGroup
found_at margin kinds starts deltas g = record {
  located = located_at margin kinds starts deltas g;
  interval = get_or (group_intervals margin kinds starts deltas) g nan;
  pattern = pattern_of margin (group_intervals margin kinds starts deltas) g;
}

-- what is written of the scratch slice: the notes' deltas, then these as they stand when those of the groups up to g
-- are in order,
unfoldable pub locate_writes : Float → List ℕ → List Float → ℕ → List (Write Float)
locate_writes margin kinds deltas g =
    write 0 (of_notes kinds deltas) ∷ write 0 (settled_up_to (suc g) (group_deltas margin kinds deltas)) ∷ []

-- and over them the groups' intervals
unfoldable pub find_writes : Float → List ℕ → List Float → List Float → ℕ → List (Write Float)
find_writes margin kinds starts deltas g =
    locate_writes margin kinds deltas g ++ (write 0 (group_intervals margin kinds starts deltas) ∷ [])
