use Rattle.fn_grammar.proofs.Printing.Functions.{printed_is_text}
use Rattle.fn_grammar.proofs.theorems.canonical_texts_are_texts.Goals as goal

pub returns : goal.returns
returns c = printed_is_text
