-- Each pair takes the mean of its own stretch; of each mean, read where it was written, the tenths can be tenths.
use Rattle.std.proofs.Common.{◌≡◌, ℕ, ◌<◌, ap, ◌∙◌, List, arith, rules, get_or, map}
use lib.IntN.{pos}
use lib.Ieee.{Float, nan}
use Rattle.numeric.specs.Tenths.{InTenthsRange}
use Rattle.lent.specs.Over.{over, part}
use Rattle.grouping_interval.specs.Notes.{of_notes}
use Rattle.call_colour.specs.Stretch.{average_of}
use Rattle.lent.proofs.PieceLaws.{get_or-over}
use Rattle.call_lesson.specs.Lesson.{Stretches, pair_count, pairs}
use Rattle.call_lesson.specs.Lent.{stretches_seen}
use Rattle.call_lesson.specs.passes.Rooms.{pair_at, mean_in, tenths_in}
use Rattle.call_lesson.proofs.PairLaws.{length-answers, answer_at, by_pair}
use Rattle.call_lesson.proofs.fill_answers.Goals.{After-by_place}
use Rattle.call_lesson.proofs.fill_answers.Goals as goal

module _ (c : After-by_place) where
  abbrev l : Stretches
  l = stretches_seen c.args.marked

  abbrev mean_of : ℕ → Float
  mean_of i = mean_in c.args.kind.now c.args.value.now (pair_at l i)

  means : c.by_place.new.out ≡ over (map (mean_in c.args.kind.now c.args.value.now) (pairs l)) c.args.mean.now
  means =
      c.by_place.ensures mean_of
      (λ i given h e.
      let a = c.args in
      let from = get_or a.marked.offset.now i 0 in
      let many = get_or a.marked.length.now i 0 in
      let is : given ≡ average_of (of_notes (part from many a.kind.now) (part from many a.value.now)) = search rules in
      is)
      ∙ ap (λ (xs : List Float). over xs c.args.mean.now) (by_pair l c.requires.paired (mean_in c.args.kind.now c.args.value.now) nan)

  mean_at : (i : ℕ) → i < pair_count l → get_or c.by_place.new.out i nan ≡ mean_of i
  mean_at i h =
      let answers = mean_in c.args.kind.now c.args.value.now in
      ap (λ (xs : List Float). get_or xs i nan) means
      ∙ get_or-over (map answers (pairs l)) c.args.mean.now i nan (omega (arith, length-answers l c.requires.paired answers))
      ∙ answer_at l c.requires.paired answers i nan h

  mean_small : (i : ℕ) → i < pair_count l → InTenthsRange (get_or c.by_place.new.out i nan)
  mean_small i h = rw (mean_at i h) (c.requires.small i h)

pub by_place-requires-2-clause-callable : goal.by_place-requires-2-clause-callable
by_place-requires-2-clause-callable c = λ i h.
    let small = mean_small (goal.at.by_place-requires-2-clause-callable c).After-by_place i h in
    search rules

pub returns-clause-mean : goal.returns-clause-mean
returns-clause-mean c = means (goal.at.returns-clause-mean c).After-by_place

pub returns-clause-tenths : goal.returns-clause-tenths
returns-clause-tenths c =
    let x = (goal.at.returns-clause-tenths c).After-by_place in
    let a = c.args in
    let of_pair = tenths_in a.kind.now a.value.now in
    c.by_place-2.ensures (λ i. of_pair (pair_at (l x) i)) (λ i given h e. let is = mean_at x i h in search rules)
    ∙ ap (λ xs. over xs a.tenths.now) (by_pair (l x) c.requires.paired of_pair (pos 0))
