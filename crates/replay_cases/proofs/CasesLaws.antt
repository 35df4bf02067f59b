-- A case is of one call only, so that what tells of that call's cases tells of all.
use Rattle.std.proofs.Common.{◌≡◌, ℕ, Bool, true, false, List, Some}
use Rattle.vectors.specs.Held.{Tells}
use Rattle.vectors.proofs.TellsLaws.{denied}
use Rattle.vectors.specs.declared.call.Call.TheVariants.{Encode, Turns, Colour, Stretch, Lesson, Rhythm, Record, Build}
use Rattle.vectors.specs.declared.case.Head.{Head}
use Rattle.cases_build.specs.Build.{BuildHolds}
use Rattle.cases_build.proofs.BuildLaws.{build_call}
use Rattle.cases_encode.specs.Encode.{EncodeHolds}
use Rattle.cases_encode.proofs.EncodeLaws.{encode_call}
use Rattle.cases_turns.specs.Turns.{TurnsHolds}
use Rattle.cases_turns.proofs.TurnsLaws.{turns_call}
use Rattle.cases_colour.specs.Colour.{ColourHolds, StretchHolds}
use Rattle.cases_colour.proofs.ColourLaws.{colour_call, stretch_call}
use Rattle.cases_lesson.specs.Lesson.{LessonHolds}
use Rattle.cases_lesson.proofs.LessonLaws.{lesson_call}
use Rattle.cases_rhythm.specs.Rhythm.{RhythmHolds}
use Rattle.cases_rhythm.proofs.RhythmLaws.{rhythm_call}
use Rattle.cases_record.specs.Record.{RecordHolds}
use Rattle.cases_record.proofs.RecordLaws.{record_call}
use Rattle.replay_cases.specs.Cases.{ChartHolds, build, encode, colour, rhythm, PartHolds, turns, stretch, lesson, group}

module _ (h : Head) (body : List ℕ) (spare : ℕ) {r : Bool} where
  pub of_build : h.call ≡ Some Build → Tells r (BuildHolds h body spare) → Tells r (ChartHolds h body spare)
  of_build e t = (λ q. build (t.0 q), back)
    where
      back : ChartHolds h body spare → r ≡ true
      back (build p) = t.1 p
      back (encode p) = let x = encode_call h body spare p in cc
      back (colour p) = let x = colour_call h body spare p in cc
      back (rhythm p) = let x = rhythm_call h body spare p in cc

  pub of_encode : h.call ≡ Some Encode → Tells r (EncodeHolds h body spare) → Tells r (ChartHolds h body spare)
  of_encode e t = (λ q. encode (t.0 q), back)
    where
      back : ChartHolds h body spare → r ≡ true
      back (build p) = let x = build_call h body spare p in cc
      back (encode p) = t.1 p
      back (colour p) = let x = colour_call h body spare p in cc
      back (rhythm p) = let x = rhythm_call h body spare p in cc

  pub of_colour : h.call ≡ Some Colour → Tells r (ColourHolds h body spare) → Tells r (ChartHolds h body spare)
  of_colour e t = (λ q. colour (t.0 q), back)
    where
      back : ChartHolds h body spare → r ≡ true
      back (build p) = let x = build_call h body spare p in cc
      back (encode p) = let x = encode_call h body spare p in cc
      back (colour p) = t.1 p
      back (rhythm p) = let x = rhythm_call h body spare p in cc

  pub of_rhythm : h.call ≡ Some Rhythm → Tells r (RhythmHolds h body spare) → Tells r (ChartHolds h body spare)
  of_rhythm e t = (λ q. rhythm (t.0 q), back)
    where
      back : ChartHolds h body spare → r ≡ true
      back (build p) = let x = build_call h body spare p in cc
      back (encode p) = let x = encode_call h body spare p in cc
      back (colour p) = let x = colour_call h body spare p in cc
      back (rhythm p) = t.1 p

module _ (h : Head) (body : List ℕ) (spare : ℕ) where
  pub no_chart : (h.call ≡ Some Build → ⊥) → (h.call ≡ Some Encode → ⊥) → (h.call ≡ Some Colour → ⊥) → (h.call ≡ Some Rhythm → ⊥)
      → Tells false (ChartHolds h body spare)
  no_chart b e c r = denied back
    where
      back : ChartHolds h body spare → ⊥
      back (build p) = b (build_call h body spare p)
      back (encode p) = e (encode_call h body spare p)
      back (colour p) = c (colour_call h body spare p)
      back (rhythm p) = r (rhythm_call h body spare p)

module _ (chart : Head) (body : List ℕ) (h : Head) (part : List ℕ) (spare : ℕ) {r : Bool} where
  pub of_turns : h.call ≡ Some Turns → Tells r (TurnsHolds chart body h part spare) → Tells r (PartHolds chart body h part spare)
  of_turns e t = (λ q. turns (t.0 q), back)
    where
      back : PartHolds chart body h part spare → r ≡ true
      back (turns p) = t.1 p
      back (stretch p) = let x = stretch_call chart body h part spare p in cc
      back (lesson p) = let x = lesson_call chart body h part spare p in cc
      back (group p) = let x = record_call chart body h part spare p in cc

  pub of_stretch : h.call ≡ Some Stretch → Tells r (StretchHolds chart body h part spare) → Tells r (PartHolds chart body h part spare)
  of_stretch e t = (λ q. stretch (t.0 q), back)
    where
      back : PartHolds chart body h part spare → r ≡ true
      back (turns p) = let x = turns_call chart body h part spare p in cc
      back (stretch p) = t.1 p
      back (lesson p) = let x = lesson_call chart body h part spare p in cc
      back (group p) = let x = record_call chart body h part spare p in cc

  pub of_lesson : h.call ≡ Some Lesson → Tells r (LessonHolds chart body h part spare) → Tells r (PartHolds chart body h part spare)
  of_lesson e t = (λ q. lesson (t.0 q), back)
    where
      back : PartHolds chart body h part spare → r ≡ true
      back (turns p) = let x = turns_call chart body h part spare p in cc
      back (stretch p) = let x = stretch_call chart body h part spare p in cc
      back (lesson p) = t.1 p
      back (group p) = let x = record_call chart body h part spare p in cc

  pub of_record : h.call ≡ Some Record → Tells r (RecordHolds chart body h part spare) → Tells r (PartHolds chart body h part spare)
  of_record e t = (λ q. group (t.0 q), back)
    where
      back : PartHolds chart body h part spare → r ≡ true
      back (turns p) = let x = turns_call chart body h part spare p in cc
      back (stretch p) = let x = stretch_call chart body h part spare p in cc
      back (lesson p) = let x = lesson_call chart body h part spare p in cc
      back (group p) = t.1 p

module _ (chart : Head) (body : List ℕ) (h : Head) (part : List ℕ) (spare : ℕ) where
  pub no_part : (h.call ≡ Some Turns → ⊥) → (h.call ≡ Some Stretch → ⊥) → (h.call ≡ Some Lesson → ⊥) → (h.call ≡ Some Record → ⊥)
      → Tells false (PartHolds chart body h part spare)
  no_part t s l r = denied back
    where
      back : PartHolds chart body h part spare → ⊥
      back (turns p) = t (turns_call chart body h part spare p)
      back (stretch p) = s (stretch_call chart body h part spare p)
      back (lesson p) = l (lesson_call chart body h part spare p)
      back (group p) = r (record_call chart body h part spare p)
