use Rattle.fn_text.proofs.WrittenIsRead.Files.{text_is_read, text_of_one}
use Rattle.fn_text.proofs.theorems.texts_of_functions_are_read.Goals as goal

pub returns-clause-read : goal.returns-clause-read
returns-clause-read c = text_is_read

pub returns-clause-unique : goal.returns-clause-unique
returns-clause-unique c = text_of_one
