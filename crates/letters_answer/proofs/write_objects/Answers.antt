-- `write_objects` meets its contract: the first places of the answer slices are the columns whose lines are written.
use Rattle.std.proofs.Common.{ap, sym, ◌∙◌, rules}
use Rattle.letters_text.specs.Lines.{lines}
use Rattle.letters_answer.proofs.AnswerLaws.{lent-columns, lines_fit}
use Rattle.letters_answer.proofs.write_objects.Goals as goal

pub write_lines-requires : goal.write_lines-requires
write_lines-requires c = (search rules, rw c.requires.1 (lines_fit _ _ c.encode_kinds.ensures.filled c.requires.0))

pub returns : goal.returns
returns c = rw c.requires.1 at c.write_lines.ensures ∙ ap lines (sym (lent-columns _ _ c.encode_kinds.ensures.filled))
