use Rattle.fn_grammar.proofs.Limits.{text_is_valid}
use Rattle.fn_grammar.proofs.theorems.texts_are_valid.Goals as goal

pub returns : goal.returns
returns c = text_is_valid
