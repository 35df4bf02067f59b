-- `trimmed` meets its contract: what is left without the suffix, or else the text, is the trimmed one.
use Rattle.letters_grammar.proofs.LetterLaws.{trimmed_is}
use Rattle.letters_shorthand.proofs.trimmed.Goals as goal

pub returns : goal.returns
returns c = trimmed_is _ _ c.strip_suffix.ensures.cases c.unwrap_or.ensures
