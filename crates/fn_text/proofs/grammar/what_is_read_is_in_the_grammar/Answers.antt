use Rattle.fn_grammar.proofs.Limits.{text_is_valid}
use Rattle.fn_text.proofs.ReadIsWritten.Functions.{found}
use Rattle.fn_text.proofs.grammar.what_is_read_is_in_the_grammar.Goals as goal

pub returns-clause-text : goal.returns-clause-text
returns-clause-text c = found

pub returns-clause-valid : goal.returns-clause-valid
returns-clause-valid c = text_is_valid
