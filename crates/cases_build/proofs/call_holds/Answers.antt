-- The slices that are lent are full of sentinels, and the rate and the times are read from the body.
use Rattle.std.proofs.lemmas.List.{take_rest}
use Rattle.cases_build.proofs.BuildLaws.{made_told}
use Rattle.cases_build.proofs.call_holds.Goals as goal

pub returns : goal.returns
returns c =
    made_told c.args.room.few _ _ (rw c.words.ensures.values at c.read.ensures) c.stored_rate-rate.ensures
    (rw (c.places-places.ensures, take_rest) at c.lent_holds.ensures)
