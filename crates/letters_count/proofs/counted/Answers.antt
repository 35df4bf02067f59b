-- `counted` meets its contract: no count, a byte that can't be there, too many objects, or the objects repeated.
use Rattle.std.proofs.Common.{Ok, ap, ◌∙◌, arith}
use Rattle.std.proofs.lemmas.Result.{err_from_is_err_and}
use Rattle.letters_count.proofs.LaterLaws.{counted_once, counted_bad, counted-full, counted-many, written, total_fits}
use Rattle.letters_count.proofs.counted.Goals as goal

pub returns-in_err-times : goal.returns-in_err-times
returns-in_err-times c =
    let p = err_from_is_err_and c.from_residual.result c.from_residual.ensures.1 in
    rw (p.1, p.2) (counted_bad _ _ _ _ c.requires.0 c.count_at.ensures _ c.in_err-times.was)

pub returns-in_default : goal.returns-in_default
returns-in_default c = counted_once _ _ _ _ c.requires.0 c.count_at.ensures (c.in_ok-times.was ∙ ap Ok c.in_default.is)

pub overflow_add-next : goal.overflow_add-next
overflow_add-next c =
    omega (arith, written _ _ _ 0 c.requires.0 c.count_at.ensures _ (c.in_ok-times.was ∙ ap Ok c.in-Some.is))

pub overflow_mul-total : goal.overflow_mul-total
overflow_mul-total c =
    omega (arith, total_fits _ _ _ _ c.requires.0 c.count_at.ensures _ (c.in_ok-times.was ∙ ap Ok c.in-Some.is) c.requires.1)

pub overflow_add-total : goal.overflow_add-total
overflow_add-total c =
    omega (arith, total_fits _ _ _ _ c.requires.0 c.count_at.ensures _ (c.in_ok-times.was ∙ ap Ok c.in-Some.is) c.requires.1)

pub returns-then-total-gt-MOST_OBJECTS : goal.returns-then-total-gt-MOST_OBJECTS
returns-then-total-gt-MOST_OBJECTS c =
    counted-full _ _ _ _ c.requires.0 c.count_at.ensures _ (c.in_ok-times.was ∙ ap Ok c.in-Some.is) c.requires.1 c.if-total-gt-MOST_OBJECTS.true

pub repeat-requires : goal.repeat-requires
repeat-requires c =
    let x = written _ _ _ 0 c.requires.0 c.count_at.ensures _ (c.in_ok-times.was ∙ ap Ok c.in-Some.is) in
    record { order = omega arith; some = x.some; fits = omega arith }

pub returns : goal.returns
returns c =
    counted-many _ _ _ _ c.requires.0 c.count_at.ensures _ (c.in_ok-times.was ∙ ap Ok c.in-Some.is) c.requires.1 _
    c.if-total-gt-MOST_OBJECTS.false c.repeat.ensures
