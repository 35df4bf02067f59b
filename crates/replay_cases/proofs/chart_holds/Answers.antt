-- A case holds by the definition of its own call only, since each definition asks for its call.
use Rattle.replay_cases.proofs.CasesLaws.{of_build, of_encode, of_colour, of_rhythm, no_chart}
use Rattle.replay_cases.proofs.chart_holds.Goals as goal

pub returns-in_default : goal.returns-in_default
returns-in_default c =
    let none = c.in_default.not-Some in
    no_chart _ _ _ (none _) (none _) (none _) (none _)

pub returns-in-Build : goal.returns-in-Build
returns-in-Build c = of_build _ _ _ (cc) c.holds.ensures

pub returns-in-Encode : goal.returns-in-Encode
returns-in-Encode c = of_encode _ _ _ (cc) c.holds-in-Encode.ensures

pub returns-in-Colour : goal.returns-in-Colour
returns-in-Colour c = of_colour _ _ _ (cc) c.holds-in-Colour.ensures

pub returns-in-Rhythm : goal.returns-in-Rhythm
returns-in-Rhythm c = of_rhythm _ _ _ (cc) c.holds-in-Rhythm.ensures

pub returns-in_default-call : goal.returns-in_default-call
returns-in_default-call c =
    let other = c.in_default-call in
    no_chart _ _ _ (λ e. other.not-Build (cc)) (λ e. other.not-Encode (cc)) (λ e. other.not-Colour (cc)) (λ e. other.not-Rhythm (cc))
