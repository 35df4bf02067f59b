-- The three readers meet their contracts, each by what the others promise where fewer bytes are left.
use Rattle.std.proofs.Common.{sym, ◌∙◌, arith}
use Rattle.std.proofs.lemmas.Result.{err_from_is_err_and}
use Rattle.letters_shorthand.proofs.ReaderLaws.{item_end, item_other, item_tilde}
use Rattle.letters_shorthand.proofs.CycleLaws.{sequence_end, sequence_close, sequence_refused, sequence_more}
use Rattle.letters_shorthand.proofs.CycleLaws.{bracket-deep, bracket_first, bracket-rest, bracket_short, bracket_read}
use Rattle.letters_shorthand.proofs.reader.Reader.+bracket_item_sequence.Goals as goal

-- ---- a bracket

pub bracket-returns-then-self-ge-MOST_BRACKETS : goal.bracket-returns-then-self-ge-MOST_BRACKETS
bracket-returns-then-self-ge-MOST_BRACKETS t c = rw c.refuse.ensures (bracket-deep c.requires.0 c.requires.1 c.if-self-ge-MOST_BRACKETS.true)

pub bracket-returns-in_err-next : goal.bracket-returns-in_err-next
bracket-returns-in_err-next t c =
    let p = err_from_is_err_and c.from_residual.result c.from_residual.ensures.1 in
    rw (p.1, p.2) (bracket_first c.requires.0 c.requires.1 c.if-self-ge-MOST_BRACKETS.false c.item.ensures c.in_err-next.was)

pub bracket-returns-in_err-end : goal.bracket-returns-in_err-end
bracket-returns-in_err-end t c =
    let p = err_from_is_err_and c.from_residual-in_err-end.result c.from_residual-in_err-end.ensures.1 in
    rw (p.1, p.2)
    (bracket-rest c.requires.0 c.requires.1 c.if-self-ge-MOST_BRACKETS.false c.item.ensures c.in_ok-next.was c.sequence.ensures c.in_err-end.was)

pub bracket-returns-in-None : goal.bracket-returns-in-None
bracket-returns-in-None t c =
    rw c.refuse-in-None.ensures
    (bracket_short c.requires.0 c.requires.1 c.if-self-ge-MOST_BRACKETS.false c.item.ensures c.in_ok-next.was c.sequence.ensures c.in_ok-end.was
    c.in-None.ensures.lookup.3)

pub bracket-returns-in-Some : goal.bracket-returns-in-Some
bracket-returns-in-Some t c =
    bracket_read c.requires.0 c.requires.1 c.if-self-ge-MOST_BRACKETS.false c.item.ensures c.in_ok-next.was c.sequence.ensures c.in_ok-end.was
    c.in-Some.ensures.lookup.3.0 c.counted.ensures

-- ---- an item

pub item-returns-in-126 : goal.item-returns-in-126
item-returns-in-126 t c =
    item_tilde _ _ _ _ _ c.in-Some.ensures.lookup.3.0 _ _ (sym (c.in-Some.ensures.lookup.4 (omega arith) 0) ∙ c.in-126.is) c.item.ensures

pub item-returns-in_default-b : goal.item-returns-in_default-b
item-returns-in_default-b t c = c.letter.ensures _

pub item-returns-in_default-2 : goal.item-returns-in_default-2
item-returns-in_default-2 t c =
    let here = c.in-Some.ensures.lookup.4 (omega arith) 0 in
    item_other _ _ _ _ _ c.in-Some.ensures.lookup.3.0 (λ e. omega (arith, here)) (λ e. omega (arith, here))
    (rw (← here) (sym c.is_letter.ensures ∙ c.if-is_letter.false)) c.refuse-in_default-2.ensures

pub item-returns-in_default : goal.item-returns-in_default
item-returns-in_default t c = rw c.refuse.ensures (item_end _ _ _ _ _ c.in_default.ensures.lookup.3)

-- ---- a sequence

pub sequence-returns-in_err-next-in-Some : goal.sequence-returns-in_err-next-in-Some
sequence-returns-in_err-next-in-Some t c =
    let here = c.in-Some.ensures.lookup.4 (omega arith) 0 in
    let p = err_from_is_err_and c.from_residual.result c.from_residual.ensures.1 in
    rw (p.1, p.2)
    (sequence_refused c.in-Some.ensures.lookup.3.0 (λ e. omega (arith, here, c.if-b-ne41.true)) c.item.ensures c.in_err-next-in-Some.was)

pub sequence-returns-in_ok-next-in-Some : goal.sequence-returns-in_ok-next-in-Some
sequence-returns-in_ok-next-in-Some t c =
    let here = c.in-Some.ensures.lookup.4 (omega arith) 0 in
    sequence_more c.in-Some.ensures.lookup.3.0 (λ e. omega (arith, here, c.if-b-ne41.true)) c.item.ensures c.in_ok-next-in-Some.was c.sequence.ensures

pub sequence-returns-in_default : goal.sequence-returns-in_default
sequence-returns-in_default t c = sequence_close c.requires (omega (arith, c.in-Some.ensures.lookup.4 (omega arith) 0, c.if-b-ne41.false))

pub sequence-returns-in_default-2 : goal.sequence-returns-in_default-2
sequence-returns-in_default-2 t c = let past = rw c.in_default.is at c.get.ensures.lookup in sequence_end c.requires past.3
