-- The stored cases of all calls: what follows a head in a file, and when a case holds, whichever call it is of.
use Rattle.std.specs.Prelude.{ℕ, cond, ◌&&◌, List, Some}
use Rattle.vectors.specs.Call.{is_call}
use Rattle.vectors.specs.declared.call.Call.{Call}
use Rattle.vectors.specs.declared.call.Call.TheVariants.{Encode, Turns, Colour, Stretch, Lesson, Rhythm, Record}
use Rattle.vectors.specs.declared.case.Head.{Head}
use Rattle.cases_build.specs.Build.{BuildHolds}
use Rattle.cases_encode.specs.Encode.{EncodeHolds}
use Rattle.cases_turns.specs.Turns.{TurnsHolds}
use Rattle.cases_colour.specs.Colour.{ColourHolds, StretchHolds}
use Rattle.cases_lesson.specs.Lesson.{LessonHolds}
use Rattle.cases_rhythm.specs.Rhythm.{RhythmHolds}
use Rattle.cases_record.specs.Record.{RecordHolds}
use Rattle.replay_cases.specs.declared.Next.{Next}
use Rattle.replay_cases.specs.declared.Next.TheVariants.{Body, Part, Nothing}

-- a file holds the cases of one call; one of encode has turns too, one of colour stretches and lessons, and one of
-- rhythm records
abbrev pub follows_in : Call → Head → Next
follows_in call h =
    cond (is_call h.call call) Body
    (cond (is_call (Some call) Encode && is_call h.call Turns) Part
    (cond (is_call (Some call) Colour && is_call h.call Stretch) Part
    (cond (is_call (Some call) Colour && is_call h.call Lesson) Part
    (cond (is_call (Some call) Rhythm && is_call h.call Record) Part Nothing))))

-- a case with a chart of its own, or with the raw objects that one is built of
pub data ChartHolds (h : Head) (body : List ℕ) (spare : ℕ) : Type 0 where
  build : BuildHolds h body spare → ChartHolds h body spare
  encode : EncodeHolds h body spare → ChartHolds h body spare
  colour : ColourHolds h body spare → ChartHolds h body spare
  rhythm : RhythmHolds h body spare → ChartHolds h body spare

-- a case on the chart of another one
pub data PartHolds (chart : Head) (body : List ℕ) (h : Head) (part : List ℕ) (spare : ℕ) : Type 0 where
  turns : TurnsHolds chart body h part spare → PartHolds chart body h part spare
  stretch : StretchHolds chart body h part spare → PartHolds chart body h part spare
  lesson : LessonHolds chart body h part spare → PartHolds chart body h part spare
  group : RecordHolds chart body h part spare → PartHolds chart body h part spare
