-- Whichever call is asked answers as its definition has it, and this answer is what is compared.
use Rattle.cases_colour.proofs.ColourLaws.{colour-told, colour-answered, stretch-answered}
use Rattle.cases_colour.proofs.answer_holds.Goals as goal

pub returns-in-Colour : goal.returns-in-Colour
returns-in-Colour c =
    colour-answered c.in-Colour.is (rw c.base-base.ensures at c.colour.ensures) (colour-told _ c.is_ok.ensures.value)

pub returns-in-Stretched : goal.returns-in-Stretched
returns-in-Stretched c =
    stretch-answered _ c.in-Stretched.is (rw c.base-base.ensures at c.stretch.ensures) c.mean_holds.ensures
