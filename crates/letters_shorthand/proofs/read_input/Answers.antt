-- `read_input` meets its contract: the text is too long, or refused, or its objects are copied over the front of the kinds.
use Rattle.std.proofs.Common.{arith}
use Rattle.std.proofs.lemmas.Result.{err_from_is_err_and}
use Rattle.letters_shorthand.proofs.TextLaws.{text_few, answers_long, answers-refused, answers-objects}
use Rattle.letters_shorthand.proofs.read_input.Goals as goal

pub returns-then-text-gt-MOST_BYTES : goal.returns-then-text-gt-MOST_BYTES
returns-then-text-gt-MOST_BYTES c = rw (← c.trimmed-text.ensures) (answers_long _ c.if-text-gt-MOST_BYTES.true)

pub returns-in_err-count : goal.returns-in_err-count
returns-in_err-count c =
    let p = err_from_is_err_and c.from_residual.result c.from_residual.ensures.1 in
    rw (p.1, p.2, ← c.trimmed-text.ensures) (answers-refused c.if-text-gt-MOST_BYTES.false c.read_text.ensures _ c.in_err-count.was)

pub returns : goal.returns
returns c =
    rw (← c.trimmed-text.ensures)
    (answers-objects c.if-text-gt-MOST_BYTES.false c.read_text.ensures _ _ c.in_ok-count.was
    (omega (arith, c.read_text.auto.kinds, text_few c.read_text.ensures c.in_ok-count.was))
    c.copy.ensures)
