-- The library's test of neighbours is that of the definition.
use lib.Dec.{ltb}
use Rattle.std.proofs.Common.{rules}
use Rattle.std.proofs.lemmas.List.Sorted.{answers_always}
use Rattle.call_lesson.proofs.RisingLaws.{rising_told}
use Rattle.call_lesson.proofs.verdict.rising.Goals as goal

pub returns : goal.returns
returns c = rising_told _ _ (c.is_sorted_by.ensures.cases ltb (answers_always _ _ _ (λ f a r g h. search rules)))
