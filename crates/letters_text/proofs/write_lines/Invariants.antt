-- The loop of `write_lines`: behind what was printed before, the letters of the objects before i stand, and what is left follows `last`.
use Rattle.letters_text.specs.Lines.{columns_of}
use Rattle.letters_text.proofs.LinesLaws.{LinesWalk}
use Rattle.letters_text.proofs.write_lines.Given as goal

abbrev pub invariant-loop-i : goal.invariant-loop-i
invariant-loop-i g l = LinesWalk (columns_of l.columns) l.fn.out.bytes l.out.bytes l.last l.i
