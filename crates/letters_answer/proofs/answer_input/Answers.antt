-- The bytes read are answered, and by the law on an input's first bytes all of the input, of which `input` has places enough.
use Rattle.std.proofs.Common.{arith}
use Rattle.letters_answer.proofs.AnswerLaws.{front_answered, whole_answered}
use Rattle.letters_answer.proofs.answer_input.Goals as goal

pub returns-clause-answered : goal.returns-clause-answered
returns-clause-answered g c = front_answered c.read_full-n.result (omega arith) (omega arith) c.write_answer.ensures

pub returns-clause-whole : goal.returns-clause-whole
returns-clause-whole g c = whole_answered _ _ _ c.read_full-n.ensures.bytes c.write_answer.ensures
