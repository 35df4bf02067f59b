-- `read_text` meets its contract: the sequence was refused, or it stopped at a closing bracket, or it is the whole text.
use Rattle.std.proofs.lemmas.Result.{err_from_is_err_and}
use Rattle.letters_shorthand.proofs.TextLaws.{text_refused, text_loose, text_read}
use Rattle.letters_shorthand.proofs.reader.read_text.Goals as goal

pub returns-in_err-end : goal.returns-in_err-end
returns-in_err-end c =
    let p = err_from_is_err_and c.from_residual.result c.from_residual.ensures.1 in
    rw (p.1, p.2) (text_refused c.sequence.ensures c.in_err-end.was)

pub returns-then-to-t : goal.returns-then-to-t
returns-then-to-t c = rw c.refuse.ensures (text_loose c.sequence.ensures c.in_ok-end.was c.if-to-t.true)

pub returns : goal.returns
returns c = text_read c.sequence.ensures c.in_ok-end.was c.if-to-t.false
