-- As for the cases with a chart: each definition asks for its call, so that only one can hold.
use Rattle.replay_cases.proofs.CasesLaws.{of_turns, of_stretch, of_lesson, of_record, no_part}
use Rattle.replay_cases.proofs.part_holds.Goals as goal

pub returns-in_default : goal.returns-in_default
returns-in_default c = let none = c.in_default.not-Some in no_part _ _ _ _ _ (none _) (none _) (none _) (none _)

pub returns-in-Turns : goal.returns-in-Turns
returns-in-Turns c = of_turns _ _ _ _ _ (cc) c.holds.ensures

pub returns-in-Stretch : goal.returns-in-Stretch
returns-in-Stretch c = of_stretch _ _ _ _ _ (cc) c.stretch_holds.ensures

pub returns-in-Lesson : goal.returns-in-Lesson
returns-in-Lesson c = of_lesson _ _ _ _ _ (cc) c.holds-in-Lesson.ensures

pub returns-in-Record : goal.returns-in-Record
returns-in-Record c = of_record _ _ _ _ _ (cc) c.holds-in-Record.ensures

pub returns-in_default-call : goal.returns-in_default-call
returns-in_default-call c =
    let other = c.in_default-call in
    no_part _ _ _ _ _ (λ e. other.not-Turns (cc)) (λ e. other.not-Stretch (cc)) (λ e. other.not-Lesson (cc)) (λ e. other.not-Record (cc))
