-- `letter` meets its contract: there is room for no more objects, or one more stands behind them and a count may follow.
use Rattle.letters_shorthand.proofs.ReaderLaws.{letter-full, letter_read}
use Rattle.letters_shorthand.proofs.reader.Reader.letter.Goals as goal

pub returns-then-n-ge-MOST_OBJECTS : goal.returns-then-n-ge-MOST_OBJECTS
returns-then-n-ge-MOST_OBJECTS c = rw c.refuse.ensures (letter-full _ _ _ _ c.requires.0 c.requires.1 c.if-n-ge-MOST_OBJECTS.true)

pub returns : goal.returns
returns c =
    letter_read _ _ _ _ c.requires.0 c.requires.1 c.if-n-ge-MOST_OBJECTS.false _ _ _
    (rw (c.from.ensures, ← c.kind_of.ensures) c.exchanged_if.ensures) c.counted.ensures
