-- The first pair that is refused is the first place at which the test does not pass.
use Rattle.std.proofs.Common.{ℕ, refl, ◌∙◌, rules}
use Rattle.grouping_chart.specs.Refusal.{Check}
use Rattle.call_lesson.specs.Lesson.{pair_refusal}
use Rattle.call_lesson.specs.Lent.{stretches_seen}
use Rattle.call_lesson.specs.passes.Rooms.{pair_at}
use Rattle.call_lesson.proofs.VerdictLaws.{lesson_places}
use Rattle.call_lesson.proofs.verdict.check_pairs.Goals as goal

pub returns : goal.returns
returns c =
    let a = c.args in
    let l = stretches_seen a.marked in
    let checks : ℕ → Check = λ i. pair_refusal a.kind.now (pair_at l i) in
    c.first_refused.ensures checks (λ i given h e. search rules)
    ∙ lesson_places a.kind.now l c.requires (λ i h. refl)
