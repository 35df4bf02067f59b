-- `write_answer` meets its contract: what is printed hangs on what the input is alone, and in each of its three cases that is what was written.
use Rattle.std.proofs.Common.{Err, ap, sym, ◌∙◌, length-take-le, rules, arith}
use Rattle.letters_count.specs.declared.Refusal.{Refusal}
use Rattle.letters_shorthand.proofs.InputLaws.{read_refused-small, read_within}
use Rattle.letters_answer.proofs.AnswerLaws.{answer_long, answer_refused, answer-objects}
use Rattle.letters_answer.proofs.write_answer.Goals as goal

pub slice_bounds-kinds-end : goal.slice_bounds-kinds-end
slice_bounds-kinds-end c = read_within c.read_input.ensures _ c.in-Ok.is

pub slice_bounds-write_objects-end : goal.slice_bounds-write_objects-end
slice_bounds-write_objects-end c = sym (length-take-le _ _ (read_within c.read_input.ensures _ c.in-Ok.is))

pub write_refused-requires : goal.write_refused-requires
write_refused-requires c =
    let small = read_refused-small c.read_input.ensures _ (c.in-Err-Refused.is ∙ ap Err c.in-Err-Refused.field-0-is) in
    let same = ap (λ (f : Refusal). f.place) c.in-Err-Refused.refusal-is in
    (search rules, (omega (arith, small.1, same), rw c.requires (omega arith)))

pub returns-in-Ok : goal.returns-in-Ok
returns-in-Ok c = c.write_objects.ensures ∙ answer-objects _ c.read_input.ensures _ c.in-Ok.is

pub returns-in-Err-Long : goal.returns-in-Err-Long
returns-in-Err-Long c =
    rw c.requires at c.write_long.ensures ∙ answer_long _ c.read_input.ensures (c.in-Err-Long.is ∙ ap Err c.in-Err-Long.field-0-is)

pub returns-in-Err-Refused : goal.returns-in-Err-Refused
returns-in-Err-Refused c =
    rw (c.requires, c.in-Err-Refused.refusal-is) at c.write_refused.ensures
    ∙ answer_refused _ c.read_input.ensures _ (c.in-Err-Refused.is ∙ ap Err c.in-Err-Refused.field-0-is)
