-- The measure of the three readers is three times the bytes left, and one more for an item, which may call `bracket` at its own place, and two
-- more for a sequence, which calls `item` there.
use Rattle.std.proofs.Common.{◌+◌, ◌-◌, ◌*◌, length}
use Rattle.letters_shorthand.proofs.reader.Reader.+bracket_item_sequence.Given as goal

abbrev pub decreases-bracket : goal.decreases-bracket
decreases-bracket l = 3 * (length l.self.now.text.now - l.c.at)

abbrev pub decreases-item : goal.decreases-item
decreases-item l = 3 * (length l.self.now.text.now - l.c.at) + 1

abbrev pub decreases-sequence : goal.decreases-sequence
decreases-sequence l = 3 * (length l.self.now.text.now - l.c.at) + 2
