use Rattle.fn_grammar.specs.Print.{printed}
use Rattle.fn_grammar.proofs.Printing.Functions.{printed_is_text}
use Rattle.fn_text.proofs.WrittenIsRead.Files.{text_is_read}
use Rattle.fn_text.proofs.theorems.canonical_texts_are_read_back.Goals as goal

pub returns-clause-text : goal.returns-clause-text
returns-clause-text c = printed_is_text

pub returns-clause-read : goal.returns-clause-read
returns-clause-read c = λ f valid. text_is_read (printed f) f (printed_is_text f valid)
